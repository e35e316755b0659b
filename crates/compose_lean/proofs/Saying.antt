-- The marked copy of a query says by its axes what the lean decision says of the query, and its guarded steps stand as deep: each step that is named goes along child there, every other along self. By induction over the query. Assumes nothing.
use Prim.Native.Nat.{ℕ}
use native.Mathlib.Omega.{arith}
use mathlib.Core.Path.{◌≡◌, refl, sym, ◌∙◌, ap, ap₂}
use mathlib.Core.Bool.{Bool, true, false, cond}
use mathlib.Core.List.{List, [], ◌∷◌, ◌++◌, map}
use mathlib.Core.Option.{Option, none, some}
use lib.ListN.{length, take}
use lib.Seq.{take_at}
use Rattle.paper.specs.Tools.{written}
use Rattle.paper.specs.Query.{Expr, path, both, either, negated, Steps, stop, step, Preds, bare, pred, Query, paths}
use Rattle.paper.specs.Items.{encode, decode, good}
use Rattle.paper.specs.Measures.{nesting}
use Rattle.paper.specs.Composition.{guarded, guard_depth}
use Rattle.paper.specs.Lean.{down_next, Decision, by_axis, leanly, loose_after}
use Rattle.paper.proofs.Encoding.{encode_decode}
use Rattle.paper.proofs.Decoding.{decode_encode}
use Rattle.composed_measures.proofs.Nesting.{guards_within}
use Rattle.lean_theorems.specs.Marks.{saying, mark_expr, mark_steps, mark_preds, mark_path, marked}
use Rattle.lean_theorems.proofs.Marks.{marked_measures, marked_good}
use Rattle.lean_marks.specs.Turns.{marked_got}
use Rattle.lean_marks.proofs.Turning.{marked_length}
use Rattle.shape.specs.Walks.{shape_of}
use Rattle.shape.specs.declared.Shape.{Shape}
use Rattle.shape.proofs.Shaping.{shaped_none, shaped_some}
use Rattle.std.specs.Prelude.{Some, None}
use Rattle.guards.specs.Guarded.{guard_item}
use Rattle.composed.specs.Pieces.{flags_expr, flags_steps, flags_preds, flags_paths, Says}
use Rattle.compose.specs.Pieces.{Nests, Nested}
use Rattle.composed.proofs.Items.{paths_say}
use Rattle.compose_lean.specs.Depths.{depth_got}

-- The axis says the decision.
says : (g : Bool) → guarded (saying g) ≡ g
says true = refl
says false = refl

module _ (decides : Decision) where
  mutual
    expr_flags : (e : Expr) → flags_expr by_axis (mark_expr decides e) ≡ flags_expr decides e
    expr_flags (path s) = ap (λ (l : List ℕ). 0 ∷ l) (steps_flags s false false false false)
    expr_flags (both a b) = ap₂ (λ (x y : List ℕ). 0 ∷ (x ++ y)) (expr_flags a) (expr_flags b)
    expr_flags (either a b) = ap₂ (λ (x y : List ℕ). 0 ∷ (x ++ y)) (expr_flags a) (expr_flags b)
    expr_flags (negated a) = ap (λ (l : List ℕ). 0 ∷ l) (expr_flags a)

    steps_flags : (s : Steps) (loose last l m : Bool) → flags_steps by_axis (mark_steps decides s loose last) l m ≡ flags_steps decides s loose last
    steps_flags stop loose last l m = refl
    steps_flags (step a x ps rest) loose last l m =
        let named = decides loose a (down_next last rest) in
        let more = loose_after decides loose a (down_next last rest) in
        ap₂ (λ (n : ℕ) (r : List ℕ). n ∷ r) (ap (λ (b : Bool). cond b 1 0) (says named))
        (ap₂ (λ (p q : List ℕ). p ++ q) (preds_flags ps)
        (steps_flags rest more last (loose_after by_axis l (saying named) (down_next m (mark_steps decides rest more last))) m))

    preds_flags : (ps : Preds) → flags_preds by_axis (mark_preds decides ps) ≡ flags_preds decides ps
    preds_flags bare = refl
    preds_flags (pred e ps) = ap₂ (λ (x y : List ℕ). x ++ y) (expr_flags e) (preds_flags ps)

  paths_flags : (ps : List Steps) → flags_paths by_axis (map (mark_path decides) ps) ≡ flags_paths decides ps
  paths_flags [] = refl
  paths_flags (p ∷ ps) = ap₂ (λ (x y : List ℕ). 0 ∷ (x ++ y)) (steps_flags p false true false true) (paths_flags ps)

-- THE MARKED COPY SAYS WHAT THE LEAN DECISION SAYS.
pub query_says : (q : Query) → good q ≡ true → map guard_item (encode (marked leanly q)) ≡ flags_paths leanly (paths q)
unfolding encode good marked
query_says q g = paths_say (paths (marked leanly q)) (marked_good leanly q g) ∙ paths_flags leanly (paths q)

-- What is known where the copy is marked.
pub record Marked (outer says : List ℕ) (m : ℕ) : Type 0 where
  pub query : Query
  pub decodes : decode outer ≡ some query
  pub nested : m ≡ nesting query
  pub copied : says ≡ encode (marked leanly query)

pub copy_marked : (outer copy old : List ℕ) (m : ℕ) → Nested outer m → copy ≡ written (marked_got (decode outer)) old → Marked outer (take (length outer) copy) m
copy_marked outer copy old m o e =
    let q = o.query in
    let long : length (encode (marked leanly q)) ≡ length outer = marked_length q ∙ ap length (sym (encode_decode outer q o.decodes).items) in
    record {
      query = q;
      decodes = o.decodes;
      nested = o.nested;
      copied =
          ap (take (length outer)) (e ∙ ap (λ (x : Option Query). written (marked_got x) old) o.decodes) ∙
          take_at (encode (marked leanly q)) _ (length outer) long;
    }

module _ (outer says : List ℕ) (m : ℕ) (k : Marked outer says m) where
  unfoldable pub marked_says : Says outer says
  marked_says =
      record {
        decides = leanly;
        query = k.query;
        decodes = k.decodes;
        flags = ap (map guard_item) k.copied ∙ query_says k.query (encode_decode outer k.query k.decodes).fine;
      }

  -- The copy is a query, as deep as the outer one.
  copy_decodes : decode says ≡ some (marked leanly k.query)
  copy_decodes =
      let d = encode_decode outer k.query k.decodes in
      ap decode k.copied ∙ decode_encode (marked leanly k.query) (marked_good leanly k.query d.fine) (omega (arith, (marked_measures leanly k.query).1, d.nested))

  pub marked_nests : (d : ℕ) → d ≡ depth_got (decode says) → Nests outer says m d marked_says
  unfolding marked_says
  marked_nests d e =
      let deep : d ≡ guard_depth (marked leanly k.query) = e ∙ ap depth_got copy_decodes in
      let same = marked_measures leanly k.query in
      record {
        nested = k.nested;
        within = omega (arith, deep, guards_within (marked leanly k.query), same.1, k.nested);
        deep = deep ∙ same.2;
      }

-- The depth that the shape of items says.
pub shape_depth : (o : Option Query) (found : Shape) → Some found ≡ shape_of o → found.guards ≡ depth_got o
shape_depth o found h = let q = shaped_some o found h in q.guards ∙ ap depth_got (sym q.decodes)

pub shape_nothing : (o : Option Query) → None ≡ shape_of o → ◌≡◌ {A = ℕ} 0 (depth_got o)
shape_nothing o h = ap depth_got (sym (shaped_none o h))
