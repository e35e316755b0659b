-- A reader decides by the tokens that it takes and the one after them; a refusal 3 stands whatever follows its token, and without that token the text can be completed.
-- Here: what that means for a reader, and how it carries over from readers to those made of them. Assumes nothing.
use Prim.Native.Nat.{ℕ}
use mathlib.Core.Path.{◌≡◌, refl, sym, ◌∙◌, ap, subst}
use mathlib.Core.Bool.{Bool, true, false}
use mathlib.Core.List.{List, [], ◌∷◌, ◌++◌, append_assoc}
use mathlib.Core.Logic.{◌⊎◌, inl}
use lib.ListN.{drop}
use Rattle.paper.specs.Tokens.{Token, finish, sort, is, letters, Placed}
use Rattle.paper.specs.Reading.{Got, got, refused, then, next, at, sees, pass, starts_step}
use Rattle.query_grammar.specs.Grammar.{tok, ended}
use Rattle.query_grammar.proofs.Seeing.{of_sort, seen}
use Rattle.query_grammar.proofs.Complete.{Done}

-- Two lists begin with the same token at the same place.
pub record Alike (us vs : List Placed) : Type 0 where
  pub token : next us ≡ next vs
  pub place : at us ≡ at vs

-- The next token ends whatever may be read before it.
pub record Shuts (us : List Placed) : Type 0 where
  pub done : Done us
  pub no_step : starts_step (next us) ≡ false

pub data Follows (ts us : List Placed) : Type 0 where
  like : Alike ts us → Follows ts us
  shut : Shuts us → Follows ts us

-- No end of the text is among these tokens.
abbrev pub Unended : List Placed → Type 0
Unended used = (us : List Placed) → ended (used ++ us) ≡ ended us

-- A gentle reader, where it refuses its first token, is completed by a token that ends what was read before.
abbrev pub Gentle : Bool → List Placed → List Placed → Type 0
Gentle true ts us = Follows ts us
Gentle false ts us = Unit {0}

-- What was used can be completed.
pub record Completion (gentle : Bool) {A : Type 0} (f : List Placed → Got A) (ts used : List Placed) : Type 0 where
  pub more : List Placed
  pub value : A
  pub open_end : Unended more
  pub reads : (us : List Placed) → Shuts us → f (used ++ (more ++ us)) ≡ got value us
  pub mild : (us : List Placed) → Shuts us → Gentle gentle ts (used ++ (more ++ us))

-- A refusal is 3 or 4. At the first token that was not used it stands whatever follows it; a refusal 3 can be mended before it.
pub record Fails (gentle : Bool) {A : Type 0} (f : List Placed → Got A) (ts : List Placed) (n p : ℕ) : Type 0 where
  pub used : List Placed
  pub left : List Placed
  pub split : ts ≡ used ++ left
  pub unended : Unended used
  pub number : (n ≡ 3) ⊎ (n ≡ 4)
  pub there : p ≡ at left
  pub stands : (us : List Placed) → Alike left us → f (used ++ us) ≡ refused n p
  pub completion : n ≡ 3 → Completion gentle f ts used

-- A reader takes tokens, and takes the same before whatever may follow; or it fails so.
pub data Local (gentle : Bool) {A : Type 0} (f : List Placed → Got A) (ts : List Placed) : Type 0 where
  takes : (a : A) (used left : List Placed) → ts ≡ used ++ left → Unended used → ((us : List Placed) → Follows left us → f (used ++ us) ≡ got a us) → Local gentle f ts
  fails : (n p : ℕ) → Fails gentle f ts n p → Local gentle f ts

-- What a reader makes of nothing but an end.
pub record Default {A : Type 0} (f : List Placed → Got A) : Type 0 where
  pub more : List Placed
  pub value : A
  pub open_end : Unended more
  pub shuts : (us : List Placed) → Shuts us → Shuts (more ++ us)
  pub reads : (us : List Placed) → Shuts us → f (more ++ us) ≡ got value us

alike_append : (used : List Placed) {left us : List Placed} → Alike left us → Alike (used ++ left) (used ++ us)
alike_append [] a = a
alike_append (t ∷ used) a = record { token = refl; place = refl }

follows_append : (used : List Placed) {left us : List Placed} → Follows left us → Follows (used ++ left) (used ++ us)
follows_append [] f = f
follows_append (t ∷ used) f = like (record { token = refl; place = refl })

gentle_of : (gentle : Bool) {ts us : List Placed} → Follows ts us → Gentle gentle ts us
gentle_of true f = f
gentle_of false f = tt

-- A reader that has used some tokens and goes on as another, at least before what may follow if that one is gentle.
local_after : {gentle rough : Bool} {A : Type 0} {f : List Placed → Got A} (g : List Placed → Got A) (used : List Placed) {ts left : List Placed} → ts ≡ used ++ left → Unended used
    → ((us : List Placed) → Gentle rough left us → f (used ++ us) ≡ g us) → ((us : List Placed) → Gentle rough left us → Gentle gentle ts (used ++ us)) → Local rough g left → Local gentle f ts
local_after {rough = rough} {f = f} g used s u e mild (takes a used₂ left₂ s₂ u₂ st) =
    takes a (used ++ used₂) left₂ (s ∙ ap (λ l. used ++ l) s₂ ∙ sym (append_assoc used used₂ left₂))
    (λ us. ap ended (append_assoc used used₂ us) ∙ u (used₂ ++ us) ∙ u₂ us)
    (λ us o.
    ap f (append_assoc used used₂ us) ∙ e (used₂ ++ us) (gentle_of rough (subst (λ l. Follows l (used₂ ++ us)) (sym s₂) (follows_append used₂ o))) ∙ st us o)
local_after {gentle} {rough} {f = f} g used {ts} s u e mild (fails m p x) =
    fails m p
    (record {
      used = used ++ x.used;
      left = x.left;
      split = s ∙ ap (λ l. used ++ l) x.split ∙ sym (append_assoc used x.used x.left);
      unended = λ us. ap ended (append_assoc used x.used us) ∙ u (x.used ++ us) ∙ x.unended us;
      number = x.number;
      there = x.there;
      stands = λ us o.
          ap f (append_assoc used x.used us) ∙
          e (x.used ++ us) (gentle_of rough (subst (λ l. Follows l (x.used ++ us)) (sym x.split) (like (alike_append x.used o)))) ∙
          x.stands us o;
      completion = λ three. let c = x.completion three in
          record {
            more = c.more;
            value = c.value;
            open_end = c.open_end;
            reads = λ us o. ap f (append_assoc used x.used (c.more ++ us)) ∙ e (x.used ++ (c.more ++ us)) (c.mild us o) ∙ c.reads us o;
            mild = λ us o. subst (λ l. Gentle gentle ts l) (sym (append_assoc used x.used (c.more ++ us))) (mild (x.used ++ (c.more ++ us)) (c.mild us o));
          };
    })

-- One token more in front.
pub local_cons : {gentle rough : Bool} {A : Type 0} {f : List Placed → Got A} (after : List Placed → Got A) (t : Placed) {ts : List Placed} → is finish t.token ≡ false
    → ((us : List Placed) → f (t ∷ us) ≡ after us) → Local rough after ts → Local gentle f (t ∷ ts)
local_cons {gentle} after t n e l =
    local_after after (t ∷ []) refl (λ us. rw n) (λ us o. e us) (λ us o. gentle_of gentle (like (record { token = refl; place = refl }))) l

-- A reader that agrees with another.
pub local_same : {gentle : Bool} {A : Type 0} {f : List Placed → Got A} (g : List Placed → Got A) {ts : List Placed} → ((us : List Placed) → f us ≡ g us) → Local gentle g ts → Local gentle f ts
local_same g e l = local_after g [] refl (λ us. refl) (λ us o. e us) (λ us o. o) l

-- It is enough that it agrees before what may follow, if the other is gentle.
pub local_when : {gentle : Bool} {A : Type 0} {f : List Placed → Got A} (g : List Placed → Got A) {ts : List Placed} → ((us : List Placed) → Follows ts us → f us ≡ g us)
    → Local true g ts → Local gentle f ts
local_when {gentle} g e l = local_after {rough = true} g [] refl (λ us. refl) e (λ us o. gentle_of gentle o) l

-- A reader that takes nothing.
pub local_got : {A : Type 0} (a : A) (ts : List Placed) → Local true (got a) ts
local_got a ts = takes a [] ts refl (λ us. refl) (λ us f. refl)

pub default_got : {A : Type 0} (a : A) → Default (got a)
default_got a = record { more = []; value = a; open_end = λ us. refl; shuts = λ us s. s; reads = λ us s. refl }

-- Two readers after each other.
module _ {A B : Type 0} (k : A → List Placed → Got B) where
  pub local_then : {gentle : Bool} {f : List Placed → Got A} {ts : List Placed} → Local gentle f ts
      → ((a : A) (used left : List Placed) → ts ≡ used ++ left → Local true (k a) left) → ((a : A) → Default (k a)) → Local gentle (λ us. then (f us) k) ts
  local_then {gentle} (takes a used left s u st) more d =
      local_after {rough = true} (k a) used s u (λ us o. ap (λ r. then r k) (st us o))
      (λ us o. gentle_of gentle (subst (λ l. Follows l (used ++ us)) (sym s) (follows_append used o))) (more a used left s)
  local_then {gentle} {f} {ts} (fails m p x) more d =
      fails m p
      (record {
        used = x.used;
        left = x.left;
        split = x.split;
        unended = x.unended;
        number = x.number;
        there = x.there;
        stands = λ us o. ap (λ r. then r k) (x.stands us o);
        completion = λ three.
            let c = x.completion three in
            let y = d c.value in
            record {
              more = c.more ++ y.more;
              value = y.value;
              open_end = λ us. ap ended (append_assoc c.more y.more us) ∙ c.open_end (y.more ++ us) ∙ y.open_end us;
              reads = λ us o.
                  ap (λ l. then (f (x.used ++ l)) k) (append_assoc c.more y.more us) ∙
                  ap (λ r. then r k) (c.reads (y.more ++ us) (y.shuts us o)) ∙
                  y.reads us o;
              mild = λ us o. subst (λ l. Gentle gentle ts (x.used ++ l)) (sym (append_assoc c.more y.more us)) (c.mild (y.more ++ us) (y.shuts us o));
            };
      })

-- A value made of what was read.
pub local_map : {gentle : Bool} {A B : Type 0} (g : A → B) {f : List Placed → Got A} {ts : List Placed} → Local gentle f ts → Local gentle (λ us. then (f us) (λ a. got (g a))) ts
local_map g l = local_then (λ a. got (g a)) l (λ a used left s. local_got (g a) left) (λ a. default_got (g a))

-- A token that must come.
module _ {A : Type 0} (t : Token) (itself : is t t ≡ true) (no_end : is t finish ≡ false) (no-end' : is finish t ≡ false) (plain : (w : List ℕ) → of_sort (sort t) w ≡ t)
    (closes : (p : ℕ) (us : List Placed) → Shuts (tok p t ∷ us)) (a : A) where
  pub local_pass : (ts : List Placed) → Local true (pass t a) ts
  local_pass ts = go (sees t ts) refl
    where
      go : (b : Bool) → sees t ts ≡ b → Local true (pass t a) ts
      go true h =
          subst (λ l. Local true (pass t a) l) (sym (seen t ts no_end h ∙ ap (λ x. tok (at ts) x ∷ drop 1 ts) (plain (letters (next ts)))))
          (local_cons (got a) (tok (at ts) t) no-end' (λ us. rw itself) (local_got a (drop 1 ts)))
      go false h =
          fails 3 (at ts)
          (record {
            used = [];
            left = ts;
            split = refl;
            unended = λ us. refl;
            number = inl refl;
            there = refl;
            stands = λ us o. let no : sees t us ≡ false = ap (is t) (sym o.token) ∙ h in rw (no, o.place);
            completion = λ three. record { more = tok 0 t ∷ []; value = a; open_end = λ us. rw no-end'; reads = λ us s. rw itself; mild = λ us s. shut (closes 0 us) };
          })

  pub default_pass : Default (pass t a)
  default_pass = record { more = tok 0 t ∷ []; value = a; open_end = λ us. rw no-end'; shuts = λ us s. closes 0 us; reads = λ us s. rw itself }
