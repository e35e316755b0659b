-- What is made of each outer path, and the size of it all, by a decision that the axes of other items say.
use Rattle.std.specs.Prelude.{ℕ, ◌+◌, ◌*◌, ◌≡◌, Bool, true, false, cond, List, [], ◌∷◌, ◌++◌, map, length}
use Rattle.std.proofs.Math.Option.{Option, none, some}
use Rattle.paper.specs.Query.{Expr, path, both, either, negated, Steps, stop, step, Preds, bare, pred, Query, paths}
use Rattle.paper.specs.Items.{pack_path, step_count, encode_steps, decode}
use Rattle.paper.specs.Measures.{size}
use Rattle.paper.specs.Lean.{down_next, Decision, loose_after, guards_in_paths_by}
use Rattle.visible.specs.Visible.{last_items}
use Rattle.guards.specs.Guarded.{guard_item, guarded_items}

module _ (decides : Decision) where
  -- The numbers of the items of a query: 1 for each step that the decision names, 0 for every other item.
  abbrev mutual
    pub flags_expr : Expr → List ℕ
    flags_expr (path steps) = 0 ∷ flags_steps steps false false
    flags_expr (both a b) = 0 ∷ (flags_expr a ++ flags_expr b)
    flags_expr (either a b) = 0 ∷ (flags_expr a ++ flags_expr b)
    flags_expr (negated a) = 0 ∷ flags_expr a

    pub flags_steps : Steps → Bool → Bool → List ℕ
    flags_steps stop loose last = []
    flags_steps (step a t ps rest) loose last =
        cond (decides loose a (down_next last rest)) 1 0 ∷ (flags_preds ps ++ flags_steps rest (loose_after decides loose a (down_next last rest)) last)

    pub flags_preds : Preds → List ℕ
    flags_preds bare = []
    flags_preds (pred e ps) = flags_expr e ++ flags_preds ps

  abbrev pub flags_paths : List Steps → List ℕ
  flags_paths [] = []
  flags_paths (p ∷ ps) = 0 ∷ (flags_steps p false true ++ flags_paths ps)

  -- A top-level path, guarded and with the last step at its end.
  abbrev pub guarded_path : List ℕ → Steps → List ℕ
  guarded_path chosen p = pack_path (step_count p + 1) ∷ (guarded_items chosen (flags_steps p false true) (encode_steps p) ++ last_items chosen)

  -- The size of the composition, from the size of S.
  abbrev pub size_got : Option Query → ℕ → ℕ
  size_got none count = 0
  size_got (some q) count = size q + guards_in_paths_by decides (paths q) * (5 + 2 * count) + length (paths q) * (3 + count)

-- By the axes of other items each item of a query says what a decision says of it: a guarded step stands where a step is named, and nowhere else.
pub record Says (outer says : List ℕ) : Type 0 where
  pub decides : Decision
  pub query : Query
  pub decodes : decode outer ≡ some query
  pub flags : map guard_item says ≡ flags_paths decides (paths query)
