-- docs/SCOPE.md, "Strength of the promises": what it is for a contract to leave one answer: calls with the same arguments that meet it answer the same, and leave the same in the slices that are lent for writing.
-- `given` is what is asked of the arguments, mostly the contract's `requires`; `left` lists the contents of those slices at exit.
use Rattle.std.specs.Prelude.{ℕ, ◌≡◌, List}
use contract.Lifetimes.{Lfts}
use denote.Triple.Clauses.{Ended, AtExit}
use borrow.Fn.Kinds.{ParamKind, ResultKind, In, Out, Dens, ended_of, res_t}
use borrow.Fn.World.{ArgsD, ResD}

abbrev pub Unique : {n : ℕ} (ps : List (ParamKind n)) (r : ResultKind n) → In n ps → Out n ps r → ((κs : Lfts n) → AtExit (ended_of n ps r) κs → List (List ℕ)) → Type 0
Unique {n} ps r given post left =
    (κs : Lfts n) (a : Dens κs ps) (u v : (res_t r κs).Denot) (x y : AtExit (ended_of n ps r) κs) → given κs a
    → post κs a u x → post κs a v y → (u ≡ v) × (left κs x ≡ left κs y)

-- The same of a function that writes nothing.
abbrev pub UniqueAnswer : {n : ℕ} (ps : List (ParamKind n)) (r : ResultKind n) → In n ps → Out n ps r → Type 0
UniqueAnswer {n} ps r given post =
    (κs : Lfts n) (a : Dens κs ps) (u v : (res_t r κs).Denot) (x y : AtExit (ended_of n ps r) κs) → given κs a → post κs a u x → post κs a v y → u ≡ v

-- The same of a function that answers with a slice: its bytes are the same.
abbrev pub UniqueBytes : {n : ℕ} (ps : List (ParamKind n)) (r : ResultKind n) → In n ps → Out n ps r → ((κs : Lfts n) → (res_t r κs).Denot → List ℕ) → Type 0
UniqueBytes {n} ps r given post bytes =
    (κs : Lfts n) (a : Dens κs ps) (u v : (res_t r κs).Denot) (x y : AtExit (ended_of n ps r) κs) → given κs a → post κs a u x → post κs a v y → bytes κs u ≡ bytes κs v

-- The same of a function that answers with a reference to a value: the value is the same.
abbrev pub UniqueRead : {n : ℕ} (V : Type 0) (ps : List (ParamKind n)) (r : ResultKind n) → In n ps → Out n ps r → ((κs : Lfts n) → (res_t r κs).Denot → V) → Type 0
UniqueRead {n} V ps r given post value =
    (κs : Lfts n) (a : Dens κs ps) (u v : (res_t r κs).Denot) (x y : AtExit (ended_of n ps r) κs) → given κs a → post κs a u x → post κs a v y → value κs u ≡ value κs v

-- The same of a function that has no `requires` and of which the toolchain makes no `Kinds` and no `Reads`, over its signature and what its contract sees at exit (`ended`).
abbrev pub UniqueSigned : (T : Ended)
    → ((κs : Lfts T.signature.lifetimes) → ArgsD T.signature κs → ResD T.signature κs → AtExit T κs → Type 0)
    → ((κs : Lfts T.signature.lifetimes) → AtExit T κs → List (List ℕ)) → Type 0
UniqueSigned T promise left =
    (κs : Lfts T.signature.lifetimes) (a : ArgsD T.signature κs) (u v : ResD T.signature κs) (x y : AtExit T κs)
    → promise κs a u x → promise κs a v y → (u ≡ v) × (left κs x ≡ left κs y)
