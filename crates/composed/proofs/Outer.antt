-- Guarding one top-level path: its item with the count raised, its items guarded, the last step. S stands where it stood. Assumes nothing.
use Prim.Native.Nat.{ℕ, zero, suc, ◌+◌, ◌-◌, ◌≤◌, ◌<◌}
use native.Mathlib.Omega.{arith}
use mathlib.Core.Path.{◌≡◌, refl, sym, ◌∙◌, ap, ap₂, subst}
use mathlib.Core.List.{List, [], ◌∷◌, ◌++◌, map}
use mathlib.Core.Bool.{true, false}
use lib.ListN.{length, take, drop, set, length-append, length-set, length-map}
use lib.Seq.{take-append_seam, drop-append_seam, drop-drop}
use Rattle.paper.specs.Limits.{item_limit}
use Rattle.paper.specs.Query.{Steps}
use Rattle.paper.specs.Items.{pack_path, step_count, encode_steps, decode, count_bound}
use Rattle.paper.specs.Lean.{Decision}
use Rattle.item.specs.Placed.{placed}
use Rattle.reverse.specs.Reverses.{each_path, each_got}
use Rattle.item.proofs.Placing.{placed_one, drop_placed, same_size}
use Rattle.reverse.proofs.Paths.{Writing, room_left, writing_start, writing_more, Top}
use Rattle.guards.specs.Guarded.{guard_item, guarded_items, Raisable}
use Rattle.visible.specs.Visible.{last_items}
use Rattle.composed.specs.Pieces.{flags_steps, flags_paths, guarded_path, Says}
use Rattle.visible.proofs.Copying.{then_chosen, part_length}
use Rattle.composed.proofs.Items.{steps_raisable, steps_long}

-- What items say, a part of them at a time.
map_take : (n : ℕ) (xs : List ℕ) → map guard_item (take n xs) ≡ take n (map guard_item xs)
map_take zero xs = refl
map_take (suc n) [] = refl
map_take (suc n) (x ∷ xs) = ap (λ (l : List ℕ). guard_item x ∷ l) (map_take n xs)

map_drop : (n : ℕ) (xs : List ℕ) → map guard_item (drop n xs) ≡ drop n (map guard_item xs)
map_drop zero xs = refl
map_drop (suc n) [] = refl
map_drop (suc n) (x ∷ xs) = map_drop n xs

-- The paths so far are written, and the items beside those that are left say what the decision says of them.
pub record Walking (decides : Decision) (outer says old out : List ℕ) (from count place at : ℕ) : Type 0 where
  pub writes : Writing (guarded_path decides (take count (drop from old))) outer old out 0 place at
  pub flags : map guard_item (drop place says) ≡ flags_paths decides writes.rest

pub walking_start : (outer says old : List ℕ) (from count : ℕ) (g : Says outer says) → Walking g.decides outer says old old from count 0 0
unfolding writing_start
walking_start outer says old from count g =
    record { writes = writing_start (guarded_path g.decides (take count (drop from old))) outer old 0 (record { query = g.query; decodes = g.decodes }); flags = g.flags }

-- What a turn knows once it has found where its path ends: the path, what was written before it, and that there is room for all.
pub record Guards (decides : Decision) (outer says old out : List ℕ) (from count place at next steps : ℕ) : Type 0 where
  pub writes : Writing (guarded_path decides (take count (drop from old))) outer old out 0 place at
  pub path : Steps
  pub later : List Steps
  pub here : writes.rest ≡ path ∷ later
  pub top : Top outer place next steps path later
  pub few : length outer ≤ item_limit
  pub flags : map guard_item (drop place says) ≡ flags_paths decides (path ∷ later)
  pub room : length (each_got (guarded_path decides (take count (drop from old))) (decode outer)) ≤ from + count
  pub fits : from + count ≤ length old

module _ {decides : Decision} {outer says old out : List ℕ} {from count place at next steps : ℕ} (g : Guards decides outer says old out from count place at next steps) where
  abbrev chosen : List ℕ
  chosen = take count (drop from old)

  -- What is said of its steps, and of the paths behind it.
  abbrev names : List ℕ
  names = flags_steps decides g.path false true

  many : length names ≡ length (encode_steps g.path)
  many = steps_long decides g.path false true

  behind : map guard_item (drop (place + 1) says) ≡ names ++ flags_paths decides g.later
  behind = ap (map guard_item) (sym (drop-drop 1 place says)) ∙ map_drop 1 (drop place says) ∙ ap (drop 1) g.flags

  pub named : map guard_item (take (next - (place + 1)) (drop (place + 1) says)) ≡ names
  named =
      map_take (next - (place + 1)) (drop (place + 1) says) ∙
      ap₂ take (let e : next - (place + 1) ≡ length names = omega (arith, g.top.ends, many) in e) behind ∙ take-append_seam names (flags_paths decides g.later)

  named_later : map guard_item (drop next says) ≡ flags_paths decides g.later
  named_later =
      ap (λ (k : ℕ). map guard_item (drop k says)) (let e : next ≡ place + 1 + length names = omega (arith, g.top.ends, many) in e) ∙
      ap (map guard_item) (sym (drop-drop (length names) (place + 1) says)) ∙ map_drop (length names) (drop (place + 1) says) ∙
      ap (drop (length names)) behind ∙ drop-append_seam names (flags_paths decides g.later)

  pub raised_few : steps + 1 < count_bound
  raised_few = omega (arith, g.top.counts, g.top.few, g.top.ends, g.top.later.inside)

  pub path_room : at + 1 + length (guarded_items chosen names (encode_steps g.path)) + 3 ≤ from
  path_room =
      omega (
        arith,
        room_left (guarded_path decides chosen) outer old out 0 place at g.writes,
        ap (λ (x : List Steps). length (each_path (guarded_path decides chosen) x)) g.here,
        length-append (guarded_path decides chosen g.path) (each_path (guarded_path decides chosen) g.later),
        length-append (guarded_items chosen names (encode_steps g.path)) (last_items chosen),
        part_length old from count g.fits,
      )

  still : take count (drop from out) ≡ chosen
  still = ap (λ (x : List ℕ). take count (drop from x)) g.writes.wrote ∙ ap (take count) (drop_placed g.writes.done old 0 from (omega arith) (omega (arith, g.writes.reached, path_room)))

  -- The path's item, and S after that.
  module _ (head : ℕ) (eh : head ≡ pack_path (steps + 1)) where
    first : set out at head ≡ placed (pack_path (step_count g.path + 1) ∷ []) at out
    first = ap (set out at) (eh ∙ ap (λ (n : ℕ). pack_path (n + 1)) g.top.counts) ∙ placed_one out at (pack_path (step_count g.path + 1)) (omega (arith, g.writes.size, path_room))

    still_first : take count (drop from (set out at head)) ≡ chosen
    still_first =
        ap (λ (x : List ℕ). take count (drop from x)) first ∙
        ap (take count) (drop_placed (pack_path (step_count g.path + 1) ∷ []) out at from (omega (arith, g.writes.size, path_room)) (omega (arith, path_room))) ∙ still

    module _ (part beside : List ℕ) (ep : part ≡ encode_steps g.path) (eb : map guard_item beside ≡ names) where
      same_items : guarded_items (take count (drop from (set out at head))) (map guard_item beside) part ≡ guarded_items chosen names (encode_steps g.path)
      same_items = ap₂ (λ (x y : List ℕ). guarded_items x y part) still_first eb ∙ ap (guarded_items chosen names) ep

      pub steps_ask : Raisable part × (length beside ≡ length part) × (at + 1 + length (guarded_items (take count (drop from (set out at head))) (map guard_item beside) part) ≤ from)
          × (from + count ≤ length (set out at head))
      steps_ask = (
        subst Raisable (sym ep) (steps_raisable g.path g.top.fine (omega (arith, g.top.ends, g.top.later.inside))),
        sym (length-map beside guard_item) ∙ ap length eb ∙ many ∙ ap length (sym ep),
        omega (arith, ap length same_items, path_room),
        omega (arith, length-set out at head, g.writes.size),
      )

      -- Then its steps.
      module _ (out₂ : List ℕ) (end : ℕ) (wrote₂ : out₂ ≡ placed (guarded_items (take count (drop from (set out at head))) (map guard_item beside) part) (at + 1) (set out at head))
          (ends : end ≡ at + 1 + length (guarded_items (take count (drop from (set out at head))) (map guard_item beside) part)) where
        second : out₂ ≡ placed (pack_path (step_count g.path + 1) ∷ guarded_items chosen names (encode_steps g.path)) at out
        second =
            then_chosen (λ x. guarded_items x names (encode_steps g.path)) (pack_path (step_count g.path + 1) ∷ []) out (set out at head) out₂ at (at + 1) from count first
            (wrote₂ ∙ ap₂ (λ (y x : List ℕ). placed (guarded_items (take count (drop from (set out at head))) y x) (at + 1) (set out at head)) eb ep)
            refl (omega (arith, g.writes.size, path_room)) (omega (arith, path_room)) ∙
            ap (λ (x : List ℕ). placed (pack_path (step_count g.path + 1) ∷ guarded_items x names (encode_steps g.path)) at out) still

        pub last_asks : (end + 3 ≤ from) × (from + count ≤ length out₂)
        last_asks = (
          omega (arith, ends, ap length same_items, path_room),
          omega (arith, same_size (pack_path (step_count g.path + 1) ∷ guarded_items chosen names (encode_steps g.path)) out out₂ at second (omega (arith, g.writes.size, path_room)), g.writes.size),
        )

        -- Then the last step.
        module _ (out₃ : List ℕ) (at' : ℕ) (wrote₃ : out₃ ≡ placed (last_items (take count (drop from out₂))) end out₂) (reached : at' ≡ end + 3 + count) where
          path_wrote : out₃ ≡ placed (guarded_path decides chosen g.path) at out
          path_wrote =
              then_chosen last_items (pack_path (step_count g.path + 1) ∷ guarded_items chosen names (encode_steps g.path)) out out₂ out₃ at end from count second wrote₃
              (omega (arith, ends, ap length same_items)) (omega (arith, g.writes.size, path_room)) (omega (arith, last_asks.0)) ∙
              ap (λ (x : List ℕ). placed (pack_path (step_count g.path + 1) ∷ (guarded_items chosen names (encode_steps g.path) ++ last_items x)) at out) still

          path_reached : at' ≡ at + length (guarded_path decides chosen g.path)
          path_reached =
              omega (
                arith,
                reached,
                ends,
                ap length same_items,
                length-append (guarded_items chosen names (encode_steps g.path)) (last_items chosen),
                part_length old from count g.fits,
              )

          -- The turn is done.
          pub path_done : Walking decides outer says old out₃ from count next at'
          unfolding writing_more
          path_done =
              record {
                writes =
                    writing_more (guarded_path decides chosen) outer old out out₃ 0 place at next at' steps g.path g.later g.writes g.here g.top (omega (arith, g.room, g.fits)) path_wrote path_reached;
                flags = named_later;
              }
