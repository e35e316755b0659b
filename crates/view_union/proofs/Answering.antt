-- The lines of the union as the code goes by them: which test decides which line, and what is left where it fails. Assumes nothing.
use Prim.Native.Nat.{ℕ, ◌≤◌, ◌<◌}
use mathlib.Core.Path.{◌≡◌, sym, ◌∙◌, ap}
use mathlib.Core.List.{List}
use mathlib.Core.Option.{none, some}
use lib.ListN.{length}
use borrow.Author.Tests.{lt-ltb, le-ltb}
use Rattle.paper.specs.Limits.{item_limit}
use Rattle.paper.specs.Items.{decode}
use Rattle.paper.specs.Answers.{Answer, value, refusal, at_exit, read_answer, read_items, compose_answer, composed_got, compose_out}
use Rattle.paper.specs.Roles.{views_of, first_unread, role_union, role_items, union_answer}
use Rattle.view_union.specs.Gathering.{union_out}

module _ (views list text : List ℕ) (mask room : ℕ) where
  abbrev union_lines : Answer
  union_lines = union_answer views list mask text room

  pub view_unread : (view : ℕ) → first_unread list 0 (views_of views) ≡ some view → refusal 17 view ≡ union_lines
  unfolding union_answer
  view_unread view f = rw f

  module _ (f : first_unread list 0 (views_of views) ≡ none) where
    pub query_refused : (number place : ℕ) → refusal number place ≡ read_answer text 1 list item_limit → refusal number place ≡ union_lines
    unfolding union_answer
    query_refused number place e = rw (f, sym e)

    module _ (n : ℕ) (e : value n ≡ read_answer text 1 list item_limit) where
      pub union_over : item_limit < length (role_union views list mask) → refusal 10 (length (role_union views list mask)) ≡ union_lines
      unfolding union_answer
      union_over l = rw (f, sym e, lt-ltb item_limit (length (role_union views list mask)) l)

      pub to_compose : length (role_union views list mask) ≤ item_limit → union_lines ≡ compose_answer (read_items text 1 list) (role_union views list mask) room
      unfolding union_answer
      to_compose l = rw (f, sym e, le-ltb item_limit (length (role_union views list mask)) l)

pub kept_union : (views list text out : List ℕ) (mask number place : ℕ) → refusal number place ≡ union_answer views list mask text (length out) → out ≡ union_out views list mask text out
kept_union views list text out mask number place e = rw (sym e)

pub composed_out : (views list text out new : List ℕ) (mask : ℕ) → union_answer views list mask text (length out) ≡ compose_answer (read_items text 1 list) (role_union views list mask) (length out)
    → new ≡ compose_out (read_items text 1 list) (role_union views list mask) out → new ≡ union_out views list mask text out
unfolding compose_out role_items
composed_out views list text out new mask e w = w ∙ ap (λ a. at_exit a (composed_got (decode (read_items text 1 list)) (decode (role_union views list mask))) out) (sym e)
