-- What reading a part of a text promises: what the paper's reader says of the tokens from a place on, and the items written.
use Rattle.std.specs.Prelude.{ℕ, ◌+◌, ◌*◌, ◌≤◌, ◌≡◌, Bool, true, false, List, ◌∷◌, Result, Ok, Err, length}
use Rattle.paper.specs.Limits.{text_limit, bracket_limit}
use Rattle.paper.specs.Tokens as paper
use Rattle.paper.specs.Tokens.{Placed}
use Rattle.paper.specs.Query.{path, Steps, Query}
use Rattle.paper.specs.Reading.{Got, got, at, sees, Step, deep}
use Rattle.paper.specs.Items.{pack_step, pred_count, encode_expr, encode_preds, encode}
use Rattle.paper.specs.declared.Refusal.{Refusal}
use Rattle.paper.specs.declared.Refusal.TheVariants.{NoQuery}
use Rattle.marks.specs.Marks.{tokens_at}
use Rattle.read_paths.specs.declared.Part.{Part}
use Rattle.heads.specs.Heads.{Refused}
use Rattle.slots.specs.Slots.{Wrote}

-- The steps, with the step that `//` stands for before them where it is written.
abbrev pub deep_if : Bool → Steps → Steps
deep_if true rest = deep rest
deep_if false rest = rest

-- The items of a step.
abbrev pub step_items : Step → List ℕ
step_items s = pack_step s.axis s.test (pred_count s.preds) ∷ encode_preds s.preds

-- READING. What was read from `from` on, with its items written from `slot` to `end`; each token gives at most three items.
pub record Gives {A : Type 0} (text old new : List ℕ) (from slot low high : ℕ) (outcome : Got A) (items : A → List ℕ) (past end : ℕ) : Type 0 where
  pub what : A
  pub reads : outcome ≡ got what (tokens_at text past)
  pub wrote : Wrote old new slot (items what)
  pub ends : end ≡ slot + length (items what)
  pub onward : from ≤ past
  pub inside : past ≤ length text
  pub fewer : length (tokens_at text past) ≤ length (tokens_at text from)
  pub grows : end + low ≤ high + 3 * past

abbrev pub Reads : {A : Type 0} → List ℕ → List ℕ → List ℕ → ℕ → ℕ → ℕ → ℕ → Got A → (A → List ℕ) → Result Part Refusal → Type 0
Reads text old new from slot low high outcome items (Ok part) = Gives text old new from slot low high outcome items part.next.at part.end
Reads text old new from slot low high outcome items (Err why) = Refused outcome why

-- What every reading function asks: a text that is not too long, a place in the text, no more brackets than may be open.
pub record Ready (text : List ℕ) (from depth : ℕ) : Type 0 where
  pub short : length text ≤ text_limit
  pub inside : from ≤ length text
  pub shallow : depth ≤ bracket_limit

-- The items of a path with these steps.
abbrev pub path_items : Steps → List ℕ
path_items s = encode_expr (path s)

-- THE QUERY. The end of the text must come next.
abbrev pub Finishes : List ℕ → ℕ → ℕ → Result Part Refusal → Type 0
Finishes text from end (Ok part) = (part.end ≡ end) × (sees paper.finish (tokens_at text from) ≡ true)
Finishes text from end (Err why) = (sees paper.finish (tokens_at text from) ≡ false) × (why ≡ NoQuery (at (tokens_at text from)))

-- Where all was read, the cursor stands at the end of the text.
abbrev pub Stops : List ℕ → Result Part Refusal → Type 0
Stops text (Ok part) = part.next.at ≡ length text
Stops text (Err why) = Unit {0}

-- What was read of a whole text, with its items written from 0 on.
pub record Whole (old new : List ℕ) (outcome : Got Query) (end : ℕ) : Type 0 where
  pub what : Query
  pub left : List Placed
  pub reads : outcome ≡ got what left
  pub wrote : Wrote old new 0 (encode what)
  pub ends : end ≡ length (encode what)

abbrev pub ReadsAll : List ℕ → List ℕ → Got Query → Result Part Refusal → Type 0
ReadsAll old new outcome (Ok part) = Whole old new outcome part.end
ReadsAll old new outcome (Err why) = Refused outcome why
