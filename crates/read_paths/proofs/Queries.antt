-- Reading absolute paths to the end of the text. The invariant: what is left to read gives the answer of the whole. Assumes nothing.
use Prim.Native.Nat.{ℕ, suc, ◌+◌, ◌*◌, ◌≤◌}
use native.Mathlib.Omega.{arith}
use mathlib.Core.Path.{◌≡◌, refl, sym, ◌∙◌, ap, subst}
use mathlib.Core.Bool.{Bool, true, false, cond}
use mathlib.Core.List.{List, [], ◌∷◌, ◌++◌, append_assoc, append-nil}
use mathlib.Core.Option.{Option}
use lib.ListN.{length, drop, length-append}
use Rattle.paper.specs.Tokens as paper
use Rattle.paper.specs.Tokens.{Placed, tokens}
use Rattle.paper.specs.Limits.{bracket_limit}
use Rattle.paper.specs.Query.{Expr, Steps, stop, Query, paths}
use Rattle.paper.specs.Items.{pack_path, encode}
use Rattle.paper.specs.Reading.{Got, got, refused, then, at, sees, joins, read_steps, read_path, read_paths, read_within, read_text}
use Rattle.token.specs.declared.Cursor.{Cursor}
use Rattle.std.specs.Prelude.{Result, Ok, Err}
use Rattle.paper.specs.declared.Refusal.{Refusal}
use Rattle.paper.specs.declared.Refusal.TheVariants.{NoQuery}
use Rattle.ahead.specs.declared.Joint.{Joint}
use Rattle.ahead.specs.declared.Lead.TheVariants.{Alone, Before}
use Rattle.marks.specs.Marks.{tokens_at, Past}
use Rattle.ahead.specs.Looking.{NoSlash, Leads}
use Rattle.read_paths.specs.declared.Part.{Part}
use Rattle.heads.specs.Heads.{Refused}
use Rattle.slots.specs.Slots.{Wrote}
use Rattle.read_paths.specs.Parts.{Gives, Reads, deep_if, path_items, Finishes, Stops, ReadsAll}
use Rattle.slots.proofs.Writing.{wrote_nothing, wrote_more}
use Rattle.read_paths.proofs.Runs.{some_token, some-fuel, passed_on}
use Rattle.read_paths.proofs.Rows.{then_then, then_got}
use Rattle.read_paths.proofs.Operands.{reads_from}

-- AN ABSOLUTE PATH.
module _ (newer : Bool) (look : List ℕ → Option ℕ) (within : ℕ → List Placed → Got Expr) (text old new : List ℕ) (from slot : ℕ) where
  pub path_alone : (made : ℕ) (past : Cursor) → Leads text from (Ok (Alone past)) → made ≡ pack_path 0 → Wrote old new slot (made ∷ [])
      → Gives text old new from slot (3 * from) slot (read_path newer look within (tokens_at text from)) path_items past.at (slot + 1)
  unfolding read_path
  path_alone made past l e v =
      record {
        what = stop;
        reads = rw (l.0.double, l.0.single, l.0.passed.rest, l.1);
        wrote = subst (λ (w : ℕ). Wrote old new slot (w ∷ [])) e v;
        ends = refl;
        onward = omega (arith, l.0.passed.onward);
        inside = l.0.passed.inside;
        fewer = omega (arith, l.0.passed.fewer);
        grows = omega (arith, l.0.passed.onward);
      }

  pub path_before : (past : Cursor) (lead : Bool) (r : Result Part Refusal) → Leads text from (Ok (Before (record { next = past; deep = lead })))
      → Reads text old new past.at slot (3 * past.at) slot
      (then (read_steps newer look within (length (tokens_at text past.at)) (tokens_at text past.at)) (λ s. got (deep_if lead s))) path_items r
      → Reads text old new from slot (3 * from) slot (read_path newer look within (tokens_at text from)) path_items r
  unfolding read_path
  path_before past true r l g =
      let p = l.0.passed in
      reads_from text old new from past.at slot (3 * past.at) slot (3 * from) slot _ _ path_items r (rw (l.0.double, p.rest)) (omega (arith, p.onward)) (omega (arith, p.fewer))
      (omega (arith, p.onward)) g
  path_before past false r l g =
      let p = l.0.passed in
      reads_from text old new from past.at slot (3 * past.at) slot (3 * from) slot _ _ path_items r
      (rw (l.0.double, l.0.single, p.rest, l.1) (then_got (read_steps newer look within (length (tokens_at text past.at)) (tokens_at text past.at)))) (omega (arith, p.onward))
      (omega (arith, p.fewer)) (omega (arith, p.onward)) g

  pub path_none : (place : ℕ) → NoSlash text from place → Refused (read_path newer look within (tokens_at text from)) (NoQuery place)
  unfolding read_path
  path_none place l = record { number = 3; place = place; told = refl; is = rw (l.0, l.1, ← l.2) }

pub leads_past : (text : List ℕ) (from : ℕ) (joint : Joint) → Leads text from (Ok (Before joint)) → Past text from joint.next.at
leads_past text from joint l = l.0.passed

-- ABSOLUTE PATHS, one after the other.
pub record PathRow (newer : Bool) (look : List ℕ → Option ℕ) (within : ℕ → List Placed → Got Expr) (text old out : List ℕ) (all : Got Query) (here filled : ℕ) : Type 0 where
  pub build : Query → Query
  pub fuel : ℕ
  pub raw : List ℕ
  pub codes : (q : Query) → encode (build q) ≡ raw ++ encode q
  pub goes_on : all ≡ then (read_paths newer look within fuel (tokens_at text here)) (λ q. got (build q))
  pub enough : length (tokens_at text here) ≤ fuel
  pub wrote : Wrote old out 0 raw
  pub ends : filled ≡ length raw
  pub inside : here ≤ length text
  pub grows : filled ≤ 3 * here

pub paths_start : (newer : Bool) (look : List ℕ → Option ℕ) (text old : List ℕ) → PathRow newer look (read_within newer look bracket_limit) text old old (read_text newer look text) 0 0
unfolding read_text tokens tokens_at
paths_start newer look text old =
    record {
      build = λ q. q;
      fuel = length (tokens text);
      raw = [];
      codes = λ q. refl;
      goes_on = then_got (read_paths newer look (read_within newer look bracket_limit) (length (tokens text)) (tokens text));
      enough = omega arith;
      wrote = wrote_nothing old 0;
      ends = refl;
      inside = omega arith;
      grows = omega arith;
    }

first_code : (p : Steps) (q : Query) → encode (record { first = p; others = paths q }) ≡ path_items p ++ encode q
unfolding encode
first_code p q = refl

only_code : (p : Steps) → encode (record { first = p; others = [] }) ≡ path_items p
unfolding encode
only_code p = append-nil (path_items p)

module _ (newer : Bool) (look : List ℕ → Option ℕ) (within : ℕ → List Placed → Got Expr) (text old out : List ℕ) (all : Got Query) (here filled : ℕ) (l : PathRow newer look within text old out all here filled) where
  pub paths_stuck : (n place : ℕ) → read_path newer look within (tokens_at text here) ≡ refused n place → all ≡ refused n place
  paths_stuck n place h =
      some-fuel l.fuel (omega (arith, l.enough, some_token text here))
      (λ f z. l.goes_on ∙ ap (λ k. then (read_paths newer look within k (tokens_at text here)) (λ q. got (l.build q))) z ∙ rw h)

  module _ (new : List ℕ) (past end : ℕ) (g : Gives text out new here filled (3 * here) filled (read_path newer look within (tokens_at text here)) path_items past end) where
    -- What has been read of the first path.
    after : (f : ℕ) → l.fuel ≡ suc f
        → all
        ≡ then
        (cond (joins newer (tokens_at text past)) (then (read_paths newer look within f (drop 1 (tokens_at text past))) (λ q. got (record { first = g.what; others = paths q })))
        (cond (sees paper.finish (tokens_at text past)) (got (record { first = g.what; others = [] }) (drop 1 (tokens_at text past))) (refused 3 (at (tokens_at text past)))))
        (λ q. got (l.build q))
    after f z = l.goes_on ∙ ap (λ k. then (read_paths newer look within k (tokens_at text here)) (λ q. got (l.build q))) z ∙ rw g.reads

    all_wrote : Wrote old new 0 (l.raw ++ path_items g.what)
    all_wrote = wrote_more old out new 0 filled l.raw (path_items g.what) l.wrote (omega (arith, l.ends)) g.wrote

    pub paths_more : (mid : ℕ) → joins newer (tokens_at text past) ≡ true → Past text past mid → PathRow newer look within text old new all mid end
    paths_more mid s p =
        some-fuel l.fuel (omega (arith, l.enough, some_token text here))
        (λ f z.
        record {
          build = λ q. l.build (record { first = g.what; others = paths q });
          fuel = f;
          raw = l.raw ++ path_items g.what;
          codes =
              λ q.
              l.codes (record { first = g.what; others = paths q }) ∙ ap (λ x. l.raw ++ x) (first_code g.what q) ∙ sym (append_assoc l.raw (path_items g.what) (encode q));
          goes_on =
              after f z ∙
              rw (s, p.rest)
              (then_then (read_paths newer look within f (tokens_at text mid)) (λ (q : Query). record { first = g.what; others = paths q }) l.build);
          enough = omega (arith, l.enough, g.fewer, p.fewer);
          wrote = all_wrote;
          ends = omega (arith, g.ends, l.ends, length-append l.raw (path_items g.what));
          inside = p.inside;
          grows = omega (arith, l.grows, g.grows, p.onward);
        })

    pub paths_done : (r : Result Part Refusal) → joins newer (tokens_at text past) ≡ false → Finishes text past end r → ReadsAll old new all r
    paths_done (Ok part) s h =
        some-fuel l.fuel (omega (arith, l.enough, some_token text here))
        (λ f z.
        let q = l.build (record { first = g.what; others = [] }) in
        let code : encode q ≡ l.raw ++ path_items g.what = l.codes (record { first = g.what; others = [] }) ∙ ap (λ x. l.raw ++ x) (only_code g.what) in
        record {
          what = q;
          left = drop 1 (tokens_at text past);
          reads = after f z ∙ rw (s, h.1);
          wrote = rw code all_wrote;
          ends = omega (arith, h.0, g.ends, l.ends, ap length code, length-append l.raw (path_items g.what));
        })
    paths_done (Err why) s h =
        some-fuel l.fuel (omega (arith, l.enough, some_token text here))
        (λ f z. record { number = 3; place = at (tokens_at text past); told = rw h.1; is = after f z ∙ rw (s, h.0) })

-- A refused path, passed upward.
pub all_refused : {A : Type 0} (old new : List ℕ) (o : Got A) (o' : Got Query) (why : Refusal) → Refused o why → ((n place : ℕ) → o ≡ refused n place → o' ≡ refused n place) → ReadsAll old new o' (Err why)
all_refused old new o o' why r k = passed_on o o' why r k

pub stops_not : (text : List ℕ) (why : Refusal) → Stops text (Err why)
stops_not text why = tt
