-- Three views in a row over calls, from the same over the entry points' definitions: a call's contract says what it answered and left by those. Assumes nothing.
use Prim.Native.Nat.{ℕ}
use mathlib.Core.Path.{◌≡◌, ◌∙◌, ap}
use mathlib.Core.List.{List}
use lib.ListN.{take}
use Rattle.paper.specs.Document.{table_of}
use Rattle.std.specs.Prelude.{Ok}
use Rattle.call_promises.specs.Calls.{RunCall}
use Rattle.entry_promises.specs.Chains.{Composes, Grouped, Runs}
use Rattle.call_promises.specs.ChainCalls.{ComposedBy, GroupedBy, ThreeInTurn, ThreeSecrets}
use Rattle.call_promises.proofs.Calls.{old_items, composed_value, composed_left, old-marks, scratch-room, run_value, run_left, shows}
use Rattle.entry_promises.proofs.Chains as entries

-- What the calls did, by the definitions.
composes : {outer inner both : List ℕ} → ComposedBy outer inner both → Composes outer inner both
composes c =
    record {
      old = old_items c.call;
      count = c.count;
      accepted = composed_value c.call;
      left = c.first ∙ ap (take c.count) (composed_left c.call);
    }

grouped : {a b c last_two first_two : List ℕ} → GroupedBy a b c last_two first_two → Grouped a b c last_two first_two
grouped g =
    record {
      bc = g.bc;
      ab = g.ab;
      b_on_c = composes g.b_on_c;
      a_on_bc = composes g.a_on_bc;
      a_on_b = composes g.a_on_b;
      ab_on_c = composes g.ab_on_c;
    }

pub runs_by : {query parents kinds given marks : List ℕ} {n : ℕ} → RunCall query parents kinds given (Ok n) marks → Runs query (table_of parents kinds) given n marks
runs_by c = record { old = old-marks c; room = scratch-room c; accepted = run_value c; left = run_left c }

-- THREE VIEWS.
pub three_in_turn : ThreeInTurn
three_in_turn a b c last_two first_two parents kinds given shown sold asked marks marks' i j k l m g run-c run-b run-a run-last run_first =
    entries.three_in_turn a b c last_two first_two (table_of parents kinds) given shown sold asked marks marks' i j k l m (grouped g) (runs_by run-c) (runs_by run-b) (runs_by run-a)
    (runs_by run-last) (runs_by run_first)

-- THREE VIEWS' SECRETS.
pub three_secrets : ThreeSecrets
three_secrets a b c last_two first_two parents kinds parents' kinds' ps ks ps' ks' g v v' same-parents same-kinds =
    let both = entries.three_secrets a b c last_two first_two (table_of parents kinds) (table_of parents' kinds') v.kept v'.kept v.count v'.count ps ks ps' ks' (grouped g)
    (shows v) (shows v') same-parents same-kinds in (
      λ qs ls qs' ls' w w'. let same = both.0 w.kept w'.kept w.count w'.count qs ls qs' ls' (shows w) (shows w') in (same.2, same.3),
      λ qs ls qs' ls' w w'. let same = both.1 w.kept w'.kept w.count w'.count qs ls qs' ls' (shows w) (shows w') in (same.2, same.3),
    )
