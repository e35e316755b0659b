-- The lines of the paper in the code's order: which test decides which line, and what is left where it fails. Assumes nothing.
use Prim.Native.Nat.{ℕ, suc, ◌+◌, ◌≤◌, ◌<◌}
use native.Mathlib.Omega.{arith}
use mathlib.Core.Path.{◌≡◌, refl, sym, ◌∙◌, ap}
use mathlib.Core.Bool.{Bool, true, false, not, ◌||◌, cond}
use mathlib.Core.List.{List, [], ◌∷◌}
use mathlib.Core.Option.{Option, none, some}
use lib.Dec.{eqb, leb, ltb}
use lib.ListN.{length}
use borrow.Author.Tests.{lt-ltb, le-ltb, le-leb, lt-leb, eq-eqb, ne_eqb}
use Rattle.paper.specs.Tools.{when}
use Rattle.paper.specs.Limits.{text_limit, list_limit}
use Rattle.paper.specs.Names.{names_fault}
use Rattle.paper.specs.Tokens.{tokens, token_at}
use Rattle.paper.specs.Reading.{read_text, read_tail, read_tested, read_step, read_operand, read_term, read_expr, read_path}
use Rattle.paper.specs.Measures.{size}
use Rattle.paper.specs.Answers.{Answer, value, refusal, line, too_long, at_exit, read_answer}
use Rattle.paper.specs.Roles.{view_limit, role_limit, views_of, unended, beyond, role_items, union_answer, mask_answer, mask_out}
use Rattle.paper.proofs.Refusing.{line_value, or_none}
use Rattle.view_union.specs.Gathering.{union_out}
use Rattle.roles.specs.Judging.{views_counted, list_answer}

-- THE LIST. Reading `/` is decided by the list.
no_other : (a : Bool) → (a || false) ≡ a
no_other true = refl
no_other false = refl

pub list_judged : (list : List ℕ) → read_answer (47 ∷ []) 1 list 1 ≡ list_answer list
unfolding read_answer tokens token_at read_text read_tail read_tested read_step read_operand read_term read_expr read_path size
list_judged list = rw (no_other (too_long list list_limit))

-- THE LINES OF THE LIMITS, OF THE LIST AND OF THE ROLE.
or_true_right : (a : Bool) → (a || true) ≡ true
or_true_right true = refl
or_true_right false = refl

-- A refusal of the list's line is one of all lines from there on, and a value says that it does not hold.
list_refused : (number place n : ℕ) (o : Option ℕ) (later : Answer) → refusal number place ≡ line 2 o (value n) → refusal number place ≡ line 2 o later
list_refused number place n none later e = absurd (let z : ◌≡◌ {A = ℕ} 0 1 = cc in omega arith)
list_refused number place n (some p) later e = e

module _ (views list text : List ℕ) (roles role mask room : ℕ) where
  -- The tests of lengths that the code makes first.
  abbrev pub long : Bool
  long = too_long views text_limit || too_long list list_limit || too_long text text_limit || ltb role_limit roles

  -- The lines after 1, after 2 and after 15.
  abbrev after_15 : Answer
  after_15 = line 16 (when (eqb mask 0 || not (eqb (beyond mask (length (views_of views))) 0)) role) (union_answer views list mask text room)

  abbrev after_2 : Answer
  after_2 = line 15 (when (leb roles role) role) after_15

  abbrev pub lines : Answer
  lines = mask_answer views list roles role mask text room

  pub too_long_lem : long ≡ true → refusal 1 0 ≡ lines
  unfolding mask_answer
  too_long_lem h = rw h

  pub too_many : view_limit < views_counted views → refusal 1 0 ≡ lines
  unfolding mask_answer
  too_many l = go (unended views) refl
    where
      go : (b : Bool) → unended views ≡ b
          → refusal 1 0 ≡ line 1 (when (long || ltb view_limit (length (views_of views)) || unended views) 0) (line 2 (names_fault list) after_2)
      go true p = rw (p, or_true_right (long || ltb view_limit (length (views_of views))))
      go false p = let many : view_limit < length (views_of views) = rw p at l in rw (lt-ltb view_limit (length (views_of views)) many, or_true_right long)

  -- The limits are kept, and so many views are counted.
  module _ (short : long ≡ false) (few : views_counted views ≤ view_limit) where
    pub count_is : views_counted views ≡ length (views_of views)
    count_is = go (unended views) refl
      where
        go : (b : Bool) → unended views ≡ b → views_counted views ≡ length (views_of views)
        go true p = let over : suc view_limit ≤ view_limit = rw p at few in absurd (omega (arith, over))
        go false p = rw p

    past-1 : lines ≡ line 2 (names_fault list) after_2
    unfolding mask_answer
    past-1 = go (unended views) refl
      where
        go : (b : Bool) → unended views ≡ b
            → line 1 (when (long || ltb view_limit (length (views_of views)) || unended views) 0) (line 2 (names_fault list) after_2) ≡ line 2 (names_fault list) after_2
        go true p = let over : suc view_limit ≤ view_limit = rw p at few in absurd (omega (arith, over))
        go false p = let fine : length (views_of views) ≤ view_limit = rw p at few in rw (short, le-ltb view_limit (length (views_of views)) fine, p)

    -- The list is short, so it is judged by its names alone.
    list_line : list_answer list ≡ line 2 (names_fault list) (value 1)
    list_line =
        let two = or_none (too_long views text_limit || too_long list list_limit) (too_long text text_limit) (or_none (too_long views text_limit || too_long list list_limit || too_long text text_limit) (ltb role_limit roles) short).0 in
        let fine = or_none (too_long views text_limit) (too_long list list_limit) two.0 in
        rw fine.1

    pub bad_list : (number place : ℕ) → refusal number place ≡ list_answer list → refusal number place ≡ lines
    bad_list number place e = list_refused number place 1 (names_fault list) after_2 (e ∙ list_line) ∙ sym past-1

    module _ (n : ℕ) (good : value n ≡ list_answer list) where
      past-2 : lines ≡ after_2
      past-2 = let none-bad = (line_value 2 n (names_fault list) (value 1) (sym (good ∙ list_line))).0 in past-1 ∙ rw none-bad

      pub no_role : roles ≤ role → refusal 15 role ≡ lines
      no_role l = sym (past-2 ∙ rw (le-leb roles role l))

      module _ (there : role < roles) where
        past_15 : lines ≡ after_15
        past_15 = past-2 ∙ rw (lt-leb roles role there)

        pub no_view : mask ≡ 0 → refusal 16 role ≡ lines
        no_view e = let nothing : eqb mask 0 ≡ true = eq-eqb mask 0 e in sym (past_15 ∙ rw nothing)

        pub not_given : (beyond mask (views_counted views) ≡ 0 → ⊥) → refusal 16 role ≡ lines
        not_given n =
            let other : eqb (beyond mask (length (views_of views))) 0 ≡ false = ne_eqb (beyond mask (length (views_of views))) 0 (λ e. n (ap (beyond mask) count_is ∙ e)) in
            sym (past_15 ∙ rw (other, or_true_right (eqb mask 0)))

        pub to_union : (mask ≡ 0 → ⊥) → beyond mask (views_counted views) ≡ 0 → lines ≡ union_answer views list mask text room
        to_union some_view given =
            let all : eqb (beyond mask (length (views_of views))) 0 ≡ true = eq-eqb (beyond mask (length (views_of views))) 0 (sym (ap (beyond mask) count_is) ∙ given) in
            past_15 ∙ rw (ne_eqb mask 0 some_view, all)

-- A refused call writes nothing, and one that goes to the union's lines writes what they say.
pub kept_out : (views list text out : List ℕ) (roles role mask number place : ℕ) → refusal number place ≡ mask_answer views list roles role mask text (length out)
    → out ≡ mask_out views list roles role mask text out
unfolding mask_out
kept_out views list text out roles role mask number place e = rw (sym e)

pub union-out : (views list text out new : List ℕ) (roles role mask : ℕ) → mask_answer views list roles role mask text (length out) ≡ union_answer views list mask text (length out)
    → new ≡ union_out views list mask text out → new ≡ mask_out views list roles role mask text out
unfolding mask_out
union-out views list text out new roles role mask e w = w ∙ ap (λ a. at_exit a (role_items views list mask text) out) (sym e)
