-- What reading the head of a step promises: its axis and its test, by the paper's reader and by the tokens from a place on.
use Rattle.std.specs.Prelude.{ℕ, ◌+◌, ◌≤◌, ◌<◌, ◌≡◌, Bool, cond, List, [], Result, Ok, Err, length, drop}
use Rattle.std.specs.Prelude.{Option, Some, None}
use Rattle.std.proofs.Math.Option as maybe
use Rattle.std.proofs.Math.Option.{none, some}
use denote.Bor.{Bor}
use Rattle.paper.specs.Names.{names_of, number_of}
use Rattle.paper.specs.Tokens as paper
use Rattle.paper.specs.Tokens.{Placed, letters}
use Rattle.paper.specs.Query.{Axis, self, child, parent, Test, any_node, any_element, Expr, bare}
use Rattle.paper.specs.Reading.{Got, got, refused, next, at, sees, axis_ahead, Step, read_tail}
use Rattle.paper.specs.Items.{axis_number, test_number, named_from}
use Rattle.paper.specs.Answers.{any_name, refusal}
use Rattle.paper.specs.Told.{told_refusal}
use Rattle.paper.specs.declared.Refusal.{Refusal}
use Rattle.paper.specs.declared.Refusal.TheVariants.{NoQuery, UnknownName}
use Rattle.token.specs.declared.Cursor.{Cursor}
use Rattle.marks.specs.Marks.{tokens_at, end_of}
use Rattle.ahead.specs.Looking.{call_code}
use Rattle.heads.specs.declared.Head.{Head}
use Rattle.heads.specs.declared.Head.TheVariants.{Plain, Tested}

-- How names are looked up: in the list, or any name will do.
abbrev pub look_of : Option (Bor (List ℕ)) → List ℕ → maybe.Option ℕ
look_of (Some names) = number_of (names_of names.now)
look_of None = any_name

-- What reading gives is the refusal that is told.
pub record Refused {A : Type 0} (outcome : Got A) (why : Refusal) : Type 0 where
  pub number : ℕ
  pub place : ℕ
  pub told : told_refusal why ≡ refusal number place
  pub is : outcome ≡ refused number place

-- A STEP'S HEAD: axis and test, after which predicates may stand; or `.` and `..` of version 1, after which none may.
pub record PlainStep (newer : Bool) (look : List ℕ → maybe.Option ℕ) (text : List ℕ) (from axis past : ℕ) (outcome : (ℕ → List Placed → Got Expr) → Got Step) : Type 0 where
  pub way : Axis
  pub number : axis ≡ axis_number way
  pub reads : (within : ℕ → List Placed → Got Expr) → outcome within ≡ got (record { axis = way; test = any_node; preds = bare }) (tokens_at text past)
  pub onward : from < past
  pub inside : past ≤ length text
  pub fewer : length (tokens_at text past) ≤ length (tokens_at text from)

pub record TestedStep (newer : Bool) (look : List ℕ → maybe.Option ℕ) (text : List ℕ) (from axis test past : ℕ) (outcome : (ℕ → List Placed → Got Expr) → Got Step) : Type 0 where
  pub way : Axis
  pub kind : Test
  pub number : axis ≡ axis_number way
  pub tested : test ≡ test_number kind
  pub small : test < 512
  pub reads : (within : ℕ → List Placed → Got Expr) → outcome within ≡ read_tail newer look within way kind (tokens_at text past)
  pub onward : from < past
  pub inside : past ≤ length text
  pub fewer : length (tokens_at text past) ≤ length (tokens_at text from)

abbrev pub Heads : Bool → (List ℕ → maybe.Option ℕ) → List ℕ → ℕ → ((ℕ → List Placed → Got Expr) → Got Step) → Result Head Refusal → Type 0
Heads newer look text from outcome (Ok (Plain axis past)) = PlainStep newer look text from axis past.at outcome
Heads newer look text from outcome (Ok (Tested axis test past)) = TestedStep newer look text from axis test past.at outcome
Heads newer look text from outcome (Err why) = (within : ℕ → List Placed → Got Expr) → Refused (outcome within) why

-- The head that `.` or `..` is, by its axis.
abbrev pub dotted_head : Bool → ℕ → Cursor → Head
dotted_head newer axis past = cond newer (Tested axis (test_number any_node) past) (Plain axis past)

-- THE HEAD BY THE TOKENS ALONE. The cursor where the next token ends.
abbrev pub after : List Placed → Cursor
after ts = record { at = end_of ts }

-- A test that is called, from what stands in its bracket on.
abbrev pub closed_head : ℕ → ℕ → List Placed → Result Head Refusal
closed_head axis test ts = cond (sees paper.close_round ts) (Ok (Tested axis test (after ts))) (Err (NoQuery (at ts)))

-- A name by its number.
abbrev pub named_head : maybe.Option ℕ → ℕ → List Placed → Result Head Refusal
named_head (some v) axis ts = Ok (Tested axis (v + named_from) (after ts))
named_head none axis ts = Err (UnknownName (at ts))

-- A word that calls a test where `(` comes after it, or else is a name.
abbrev pub called_head : Option ℕ → maybe.Option ℕ → ℕ → List Placed → Result Head Refusal
called_head (Some test) named axis ts = cond (sees paper.open_round (drop 1 ts)) (closed_head axis test (drop 2 ts)) (named_head named axis ts)
called_head None named axis ts = named_head named axis ts

abbrev pub word_head : (List ℕ → maybe.Option ℕ) → List ℕ → ℕ → List Placed → Result Head Refusal
word_head look word axis ts = called_head (call_code word) (look word) axis ts

-- The test of a step, after its axis.
unfoldable pub tested_head : (List ℕ → maybe.Option ℕ) → ℕ → List Placed → Result Head Refusal
tested_head look axis ts =
    cond (sees paper.star ts) (Ok (Tested axis (test_number any_element) (after ts)))
    (cond (sees (paper.word []) ts) (word_head look (letters (next ts)) axis ts) (Err (NoQuery (at ts))))

abbrev pub axis_head : (List ℕ → maybe.Option ℕ) → maybe.Option Axis → List Placed → Result Head Refusal
axis_head look (some a) ts = tested_head look (axis_number a) (drop 2 ts)
axis_head look none ts = tested_head look (axis_number child) ts

-- The head of a step.
unfoldable pub step_head : Bool → (List ℕ → maybe.Option ℕ) → List Placed → Result Head Refusal
step_head newer look ts =
    cond (sees paper.dot ts) (Ok (dotted_head newer (axis_number self) (after ts)))
    (cond (sees paper.dots ts) (Ok (dotted_head newer (axis_number parent) (after ts))) (axis_head look (axis_ahead ts) ts))
