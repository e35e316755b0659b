-- Reading runs of operands: what was read so far, and how one operand more changes it. What is left to read gives the answer of the whole. Assumes nothing.
use Prim.Native.Nat.{ℕ, zero, suc, ◌+◌, ◌*◌, ◌≤◌, ◌<◌}
use native.Mathlib.Omega.{arith}
use native.Mathlib.Numerals.{add-one}
use mathlib.Core.Path.{◌≡◌, refl, sym, ◌∙◌, ap}
use mathlib.Core.Bool.{Bool, true, false, cond}
use mathlib.Core.List.{List, [], ◌∷◌, ◌++◌, append_assoc}
use mathlib.Core.Option.{Option}
use lib.ListN.{length, drop, replicate, length-append, length-replicate}
use Rattle.paper.specs.Tools.{ascii}
use Rattle.paper.specs.Tokens.{Placed, tokens_from, token_at, beyond, white}
use Rattle.paper.specs.Query.{Expr, both, either}
use Rattle.paper.specs.Items.{and_item, or_item, encode_expr}
use Rattle.paper.specs.Reading.{Got, got, refused, then, says, read_operand, read_ands, read_term, read_ors, read_expr}
use Rattle.marks.specs.Marks.{tokens_at, Past}
use Rattle.slots.specs.Slots.{Wrote, Grouped}
use Rattle.paper.specs.declared.Refusal.{Refusal}
use Rattle.heads.specs.Heads.{Refused}
use Rattle.read_paths.specs.Parts.{Gives}
use Rattle.slots.proofs.Writing.{wrote_more, wrote_grouped}

-- There is always a token, the end of the text at least.
some_from : (bs : List ℕ) (taken place : ℕ) → 0 < length (tokens_from taken place bs)
some_from [] taken place = omega arith
some_from (b ∷ bs) (suc taken) place = some_from bs taken (suc place)
some_from (b ∷ bs) zero place = go (white b) (some_from bs 0 (suc place))
  where
    go : (w : Bool) → 0 < length (tokens_from 0 (suc place) bs)
        → 0 < length (cond w (tokens_from 0 (suc place) bs) (record { place = place; token = token_at b bs } ∷ tokens_from (beyond (token_at b bs)) (suc place) bs))
    go true h = h
    go false h = omega arith

pub some_token : (text : List ℕ) (from : ℕ) → 0 < length (tokens_at text from)
unfolding tokens_at
some_token text from = some_from (drop from text) 0 from

-- Whatever is left of the fuel, there is some while a token is left.
pub some-fuel {ℓ} : {C : Type ℓ} (fuel : ℕ) → 0 < fuel → ((f : ℕ) → fuel ≡ suc f → C) → C
some-fuel zero z k = absurd (omega arith)
some-fuel (suc f) z k = k f refl

-- A refusal, which is passed upward as it is.
pub passed_on : {A B : Type 0} (o : Got A) (o' : Got B) (why : Refusal) → Refused o why → ((n place : ℕ) → o ≡ refused n place → o' ≡ refused n place) → Refused o' why
passed_on o o' why r k = record { number = r.number; place = r.place; told = r.told; is = k r.number r.place r.is }

-- AN OPERATOR: `one` reads an operand, `more n e` reads at most n more and joins each to e.
pub record Operator : Type 0 where
  pub one : List Placed → Got Expr
  pub more : ℕ → Expr → List Placed → Got Expr
  pub join : Expr → Expr → Expr
  pub item : ℕ
  pub word : List ℕ
  pub stops : (e : Expr) (ts : List Placed) → more 0 e ts ≡ got e ts
  pub goes : (n : ℕ) (e : Expr) (ts : List Placed) → more (suc n) e ts ≡ cond (says word ts) (then (one (drop 1 ts)) (λ b. more n (join e b))) (got e ts)
  pub codes : (a b : Expr) → encode_expr (join a b) ≡ item ∷ (encode_expr a ++ encode_expr b)

abbrev pub ands : Bool → (List ℕ → Option ℕ) → (ℕ → List Placed → Got Expr) → Operator
ands newer look within =
    record {
      one = read_operand newer look within;
      more = read_ands newer look within;
      join = both;
      item = and_item;
      word = ascii "and";
      stops = λ e ts. refl;
      goes = λ n e ts. refl;
      codes = λ a b. refl;
    }

abbrev pub ors : Bool → (List ℕ → Option ℕ) → (ℕ → List Placed → Got Expr) → Operator
ors newer look within =
    record {
      one = read_term newer look within;
      more = read_ors newer look within;
      join = either;
      item = or_item;
      word = ascii "or";
      stops = λ e ts. refl;
      goes = λ n e ts. refl;
      codes = λ a b. refl;
    }

-- The whole run: an operand, and as many more as there are.
abbrev pub whole : Operator → List Placed → Got Expr
whole op ts = then (op.one ts) (λ a left. op.more (length left) a left)

pub term_whole : (newer : Bool) (look : List ℕ → Option ℕ) (within : ℕ → List Placed → Got Expr) (ts : List Placed) → read_term newer look within ts ≡ whole (ands newer look within) ts
unfolding read_term
term_whole newer look within ts = refl

pub expr_whole : (newer : Bool) (look : List ℕ → Option ℕ) (within : ℕ → List Placed → Got Expr) (ts : List Placed) → read_expr newer look within ts ≡ whole (ors newer look within) ts
unfolding read_expr
expr_whole newer look within ts = refl

-- What has been read of the run, and its operands written one behind the other.
pub record Left (op : Operator) (text old out : List ℕ) (from slot : ℕ) (all : Got Expr) (here filled run : ℕ) : Type 0 where
  pub so_far : Expr
  pub fuel : ℕ
  pub raw : List ℕ
  pub goes_on : all ≡ op.more fuel so_far (tokens_at text here)
  pub enough : length (tokens_at text here) ≤ fuel
  pub coded : encode_expr so_far ≡ replicate run op.item ++ raw
  pub wrote : Wrote old out slot raw
  pub ends : filled ≡ slot + length raw
  pub onward : from ≤ here
  pub inside : here ≤ length text
  pub fewer : length (tokens_at text here) ≤ length (tokens_at text from)
  pub grows : filled + run + 3 * from ≤ slot + 3 * here

module _ (op : Operator) (text old : List ℕ) (from slot : ℕ) (all : Got Expr) (is : all ≡ whole op (tokens_at text from)) where
  -- The first operand.
  pub left_start : (out : List ℕ) (here filled : ℕ) → Gives text old out from slot (3 * from) slot (op.one (tokens_at text from)) encode_expr here filled
      → Left op text old out from slot all here filled 0
  left_start out here filled g =
      record {
        so_far = g.what;
        fuel = length (tokens_at text here);
        raw = encode_expr g.what;
        goes_on = is ∙ ap (λ o. then o (λ a left. op.more (length left) a left)) g.reads;
        enough = omega arith;
        coded = refl;
        wrote = g.wrote;
        ends = g.ends;
        onward = g.onward;
        inside = g.inside;
        fewer = g.fewer;
        grows = omega (arith, g.grows);
      }

  pub start_stuck : (n place : ℕ) → op.one (tokens_at text from) ≡ refused n place → all ≡ refused n place
  start_stuck n place h = is ∙ ap (λ o. then o (λ a left. op.more (length left) a left)) h

module _ (op : Operator) (text old : List ℕ) (from slot : ℕ) (all : Got Expr) where
  module _ (out : List ℕ) (here filled run : ℕ) (l : Left op text old out from slot all here filled run) where
    -- The operator's word comes next.
    module _ (mid : ℕ) (s : says op.word (tokens_at text here) ≡ true) (p : Past text here mid) where
      there : (f : ℕ) → l.fuel ≡ suc f → all ≡ then (op.one (tokens_at text mid)) (λ b. op.more f (op.join l.so_far b))
      there f e =
          l.goes_on ∙ ap (λ n. op.more n l.so_far (tokens_at text here)) e ∙ op.goes f l.so_far (tokens_at text here) ∙ rw (s, p.rest)

      pub left_more : (out' : List ℕ) (past end : ℕ) → Gives text out out' mid filled (3 * mid) filled (op.one (tokens_at text mid)) encode_expr past end
          → Left op text old out' from slot all past end (run + 1)
      left_more out' past end g =
          some-fuel l.fuel (omega (arith, l.enough, p.fewer))
          (λ f e.
          let code = encode_expr g.what in
          record {
            so_far = op.join l.so_far g.what;
            fuel = f;
            raw = l.raw ++ code;
            goes_on = there f e ∙ ap (λ o. then o (λ b. op.more f (op.join l.so_far b))) g.reads;
            enough = omega (arith, l.enough, p.fewer, g.fewer);
            coded =
                op.codes l.so_far g.what ∙ ap (λ x. op.item ∷ (x ++ code)) l.coded ∙ ap (λ x. op.item ∷ x) (append_assoc (replicate run op.item) l.raw code) ∙
                ap (λ n. replicate n op.item ++ (l.raw ++ code)) (sym (add-one run));
            wrote = wrote_more old out out' slot filled l.raw code l.wrote l.ends g.wrote;
            ends = omega (arith, g.ends, l.ends, length-append l.raw code);
            onward = omega (arith, l.onward, p.onward, g.onward);
            inside = g.inside;
            fewer = omega (arith, l.fewer, p.fewer, g.fewer);
            grows = omega (arith, l.grows, g.grows, p.onward);
          })

      pub left_stuck : (n place : ℕ) → op.one (tokens_at text mid) ≡ refused n place → all ≡ refused n place
      left_stuck n place h =
          some-fuel l.fuel (omega (arith, l.enough, p.fewer)) (λ f e. there f e ∙ ap (λ o. then o (λ b. op.more f (op.join l.so_far b))) h)

    -- It does not: the operators are put before the operands.
    pub left_done : (new : List ℕ) → says op.word (tokens_at text here) ≡ false → Grouped out new slot filled run op.item
        → Gives text old new from slot (3 * from) slot all encode_expr here (filled + run)
    left_done new s g =
        record {
          what = l.so_far;
          reads = l.goes_on ∙ over l.fuel;
          wrote = rw l.coded (wrote_grouped old out new slot filled run op.item l.raw l.wrote l.ends g);
          ends = omega (arith, l.ends, ap length l.coded, length-append (replicate run op.item) l.raw, length-replicate run op.item);
          onward = l.onward;
          inside = l.inside;
          fewer = l.fewer;
          grows = omega (arith, l.grows);
        }
      where
        over : (n : ℕ) → op.more n l.so_far (tokens_at text here) ≡ got l.so_far (tokens_at text here)
        over zero = op.stops l.so_far (tokens_at text here)
        over (suc n) = op.goes n l.so_far (tokens_at text here) ∙ rw s

-- An operand is to be read at `here`: what its answer makes of the whole.
pub record Awaits (op : Operator) (text old out : List ℕ) (from slot : ℕ) (all : Got Expr) (here filled run : ℕ) : Type 0 where
  pub stuck : (n place : ℕ) → op.one (tokens_at text here) ≡ refused n place → all ≡ refused n place
  pub gives : (out' : List ℕ) (past end : ℕ) → Gives text out out' here filled (3 * here) filled (op.one (tokens_at text here)) encode_expr past end
      → Left op text old out' from slot all past end run
  pub onward : from ≤ here
  pub inside : here ≤ length text
  pub grows : filled + run + 3 * from ≤ slot + 3 * here

awaits_first : (op : Operator) (text old : List ℕ) (from slot : ℕ) (all : Got Expr) → all ≡ whole op (tokens_at text from) → from ≤ length text
    → Awaits op text old old from slot all from slot 0
awaits_first op text old from slot all is inside =
    record {
      stuck = start_stuck op text old from slot all is;
      gives = λ out' past end g. left_start op text old from slot all is out' past end g;
      onward = omega arith;
      inside = inside;
      grows = omega arith;
    }

awaits_next : (op : Operator) (text old : List ℕ) (from slot : ℕ) (all : Got Expr) (out : List ℕ) (here filled run : ℕ) → Left op text old out from slot all here filled run
    → (mid : ℕ) → says op.word (tokens_at text here) ≡ true → Past text here mid
    → Awaits op text old out from slot all mid filled (run + 1)
awaits_next op text old from slot all out here filled run l mid s p =
    record {
      stuck = left_stuck op text old from slot all out here filled run l mid s p;
      gives = λ out' past end g. left_more op text old from slot all out here filled run l mid s p out' past end g;
      onward = omega (arith, l.onward, p.onward);
      inside = p.inside;
      grows = omega (arith, l.grows, p.onward);
    }

-- AN EXPRESSION: an operand of `and` is to be read, in a term that an `or` awaits; the term began at `since` in the text and at `begun` in the items.
module _ (newer : Bool) (look : List ℕ → Option ℕ) (within : ℕ → List Placed → Got Expr) (text old : List ℕ) (from slot : ℕ) where
  pub record Turn (out : List ℕ) (here filled begun anded ored : ℕ) : Type 0 where
    pub since : ℕ
    pub mid : List ℕ
    pub outer : Awaits (ors newer look within) text old mid from slot (read_expr newer look within (tokens_at text from)) since begun ored
    pub inner : Awaits (ands newer look within) text mid out since begun (read_term newer look within (tokens_at text since)) here filled anded

  pub turn_start : from ≤ length text → Turn old from slot slot 0 0
  turn_start inside =
      record {
        since = from;
        mid = old;
        outer = awaits_first (ors newer look within) text old from slot _ (expr_whole newer look within (tokens_at text from)) inside;
        inner = awaits_first (ands newer look within) text old from slot _ (term_whole newer look within (tokens_at text from)) inside;
      }

  module _ (out : List ℕ) (here filled begun anded ored : ℕ) (t : Turn out here filled begun anded ored) where
    pub turn_stuck : (n place : ℕ) → read_operand newer look within (tokens_at text here) ≡ refused n place → read_expr newer look within (tokens_at text from) ≡ refused n place
    turn_stuck n place h = t.outer.stuck n place (t.inner.stuck n place h)

    -- The operand is read.
    module _ (out' : List ℕ) (past end : ℕ) (g : Gives text out out' here filled (3 * here) filled (read_operand newer look within (tokens_at text here)) encode_expr past end) where
      pub operands : Left (ands newer look within) text t.mid out' t.since begun (read_term newer look within (tokens_at text t.since)) past end anded
      operands = t.inner.gives out' past end g

      pub turn_and : (next : ℕ) → says (ascii "and") (tokens_at text past) ≡ true → Past text past next → Turn out' next end begun (anded + 1) ored
      turn_and next s p =
          record {
            since = t.since;
            mid = t.mid;
            outer = t.outer;
            inner = awaits_next (ands newer look within) text t.mid t.since begun _ out' past end anded operands next s p;
          }

      -- The term is read.
      module _ (new : List ℕ) (s : says (ascii "and") (tokens_at text past) ≡ false) (m : Grouped out' new begun end anded and_item) where
        pub terms : Left (ors newer look within) text old new from slot (read_expr newer look within (tokens_at text from)) past (end + anded) ored
        terms =
            t.outer.gives new past (end + anded) (left_done (ands newer look within) text t.mid t.since begun _ out' past end anded operands new s m)

        pub turn_or : (next : ℕ) → says (ascii "or") (tokens_at text past) ≡ true → Past text past next → Turn new next (end + anded) (end + anded) 0 (ored + 1)
        turn_or next s' p =
            record {
              since = next;
              mid = new;
              outer = awaits_next (ors newer look within) text old from slot _ new past (end + anded) ored terms next s' p;
              inner = awaits_first (ands newer look within) text new next (end + anded) _ (term_whole newer look within (tokens_at text next)) p.inside;
            }

        pub turn_done : (last : List ℕ) → says (ascii "or") (tokens_at text past) ≡ false → Grouped new last slot (end + anded) ored or_item
            → Gives text old last from slot (3 * from) slot (read_expr newer look within (tokens_at text from)) encode_expr past (end + anded + ored)
        turn_done last s' m' = left_done (ors newer look within) text old from slot _ new past (end + anded) ored terms last s' m'
