-- Small functions on numbers, lists and tests that every other file uses.
use Rattle.std.specs.Prelude.{ℕ, zero, suc, Bool, true, false, ◌&&◌, ◌||◌, cond, List, [], ◌∷◌, ◌++◌, eqb, length, drop}
use Prim.Native.Char.{code}
use Prim.Native.String.{String}
use Rattle.std.proofs.Math.Option.{Option, none, some}

-- The bytes of an ASCII text.
abbrev pub ascii : String → List ℕ
ascii (String.[]) = []
ascii (String.◌∷◌ c s) = code c ∷ ascii s

-- Do two lists of numbers agree?
abbrev pub same : List ℕ → List ℕ → Bool
same [] [] = true
same [] (y ∷ ys) = false
same (x ∷ xs) [] = false
same (x ∷ xs) (y ∷ ys) = eqb x y && same xs ys

-- Is this the first of the list?
abbrev pub begins : ℕ → List ℕ → Bool
begins x [] = false
begins x (y ∷ ys) = eqb x y

-- How many of the first of the list pass the test?
abbrev pub run_of : (ℕ → Bool) → List ℕ → ℕ
run_of test [] = 0
run_of test (x ∷ xs) = let more = suc (run_of test xs) in cond (test x) more 0

-- Does some number below n pass the test?
abbrev pub some_below : ℕ → (ℕ → Bool) → Bool
some_below zero test = false
some_below (suc n) test = let earlier = some_below n test in test n || earlier

-- Does some element of the list pass the test?
abbrev pub some_of : {A : Type 0} → (A → Bool) → List A → Bool
some_of test [] = false
some_of test (x ∷ xs) = let later = some_of test xs in test x || later

-- The first of the `left` numbers from `at` on that passes the test.
abbrev pub first_from : ℕ → ℕ → (ℕ → Bool) → Option ℕ
first_from zero at test = none
first_from (suc left) at test = let later = first_from left (suc at) test in cond (test at) (some at) later

-- The first number below n that passes the test.
abbrev pub first_below : ℕ → (ℕ → Bool) → Option ℕ
first_below n test = first_from n 0 test

-- The `left` values of f from `at` on.
abbrev pub column_from : {A : Type 0} → ℕ → ℕ → (ℕ → A) → List A
column_from zero at f = []
column_from (suc left) at f = f at ∷ column_from left (suc at) f

-- The values of f at 0, 1, .. below n.
abbrev pub column : {A : Type 0} → ℕ → (ℕ → A) → List A
column n f = column_from n 0 f

-- What stands in a lent slice once `new` is written from its start: the rest is untouched.
abbrev pub written : List ℕ → List ℕ → List ℕ
written new old = new ++ drop (length new) old

-- A place, where the test holds.
abbrev pub when : Bool → ℕ → Option ℕ
when true place = some place
when false place = none

-- What comes next, if something was found.
abbrev pub found : {A B : Type 0} → Option A → (A → Option B) → Option B
found none next = none
found (some a) next = next a
