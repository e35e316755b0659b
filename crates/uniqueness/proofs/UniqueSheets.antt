-- The functions of a sheet have one answer and leave one content: what is put tells the slice, how a column grows the column. Assumes nothing.
use Prim.Native.Nat.{ℕ}
use mathlib.Core.Path.{◌≡◌, refl, sym, ◌∙◌, ap, ap₂}
use mathlib.Core.List.{List, [], ◌∷◌}
use lib.ListN.{length}
use lib.Seq.{length-take-le}
use Rattle.tally.proofs.Unique.{grows_unique}
use Rattle.call_promises.proofs.Telling.{same}
use Rattle.uniqueness.specs.UniqueSheets.{ListEndUnique, PutDecimalUnique, PutListedNameUnique, PutNameUnique, IsCountedUnique, AddNodesUnique, AddRefusalUnique, AddTextUnique, PutSheetUnique}
use Rattle.uniqueness.proofs.UniqueParts.{both_put}

pub list_end_unique : ListEndUnique
list_end_unique κs a u v x y g p q =
    sym (length-take-le u a.0.now p.inside) ∙ ap length (same p.names q.names) ∙ length-take-le v a.0.now q.inside

pub put_decimal_unique : PutDecimalUnique
put_decimal_unique κs a u v x y g p q = both_put p.0 q.0

pub put_listed_name_unique : PutListedNameUnique
put_listed_name_unique κs a u v x y g p q = both_put p.0 q.0

pub put_name_unique : PutNameUnique
put_name_unique κs a u v x y g p q = both_put p.0 q.0

pub is_counted_unique : IsCountedUnique
is_counted_unique κs a u v x y g p q = same p q

columns : {a b c a' b' c' : List ℕ} {more more' : List (List ℕ)} → a ≡ a' → b ≡ b' → c ≡ c' → more ≡ more' → a ∷ b ∷ c ∷ more ≡ a' ∷ b' ∷ c' ∷ more'
columns e f g h = rw (e, f, g, h)

pub add_nodes_unique : AddNodesUnique
add_nodes_unique κs a u v x y g p q =
    (refl, columns (grows_unique p.all_told q.all_told) (grows_unique p.kept_told q.kept_told) (grows_unique p.hidden_told q.hidden_told) refl)

pub add_refusal_unique : AddRefusalUnique
add_refusal_unique κs a u v x y g p q = (refl, ap (λ l. l ∷ []) (grows_unique p q))

pub add_text_unique : AddTextUnique
add_text_unique κs a u v x y g p q =
    (refl, columns (grows_unique p.all_grow q.all_grow) (grows_unique p.kept_grow q.kept_grow) (grows_unique p.hidden_grow q.hidden_grow) (ap (λ l. l ∷ []) (grows_unique p.refusals_grow q.refusals_grow)))

pub put_sheet_unique : PutSheetUnique
put_sheet_unique κs a u v x y g p q = both_put p.puts q.puts
