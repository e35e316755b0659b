-- A column that can be climbed in falls towards the root, whatever kinds stand beside it. Assumes nothing.
use Prim.Native.Nat.{ℕ, ◌+◌, ◌<◌}
use native.Mathlib.Omega.{arith}
use mathlib.Core.List.{List, []}
use lib.ListN.{length}
use Rattle.paper.specs.Document.{table_of}
use Rattle.paper.proofs.Trees.{Tree}
use Rattle.table.specs.Climbs.{Falls}
use Rattle.kin.specs.Nearness.{near}

pub falls_near : (parents : List ℕ) → near parents → Falls parents (length parents)
falls_near parents w =
    record {
      within = omega arith;
      root = λ z. (w []).root;
      falls = λ k z l. (w []).falls k z l;
    }

pub falls_up : (parents : List ℕ) (from : ℕ) → near parents → from < length parents → Falls parents (from + 1)
falls_up parents from w l =
    record {
      within = omega arith;
      root = λ z. (w []).root;
      falls = λ k z b. (w []).falls k z (omega arith);
    }

-- A tree is one with any kinds.
pub any_kinds : (parents kinds : List ℕ) → Tree (table_of parents kinds) → near parents
any_kinds parents kinds w other = record { rooted = w.rooted; root = w.root; falls = w.falls }
