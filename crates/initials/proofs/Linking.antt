-- The links from the last name to the first, and the search along them. Assumes nothing.
use Prim.Native.Nat.{ℕ, zero, suc, ◌+◌, ◌-◌, ◌≤◌, ◌<◌}
use native.Mathlib.Omega.{arith}
use native.Mathlib.Nat.{add-zero, zero-add}
use mathlib.Core.Path.{◌≡◌, refl, sym, ◌∙◌, ap, subst}
use mathlib.Core.Bool.{Bool, true, false, false≢true}
use mathlib.Core.List.{List, [], ◌∷◌}
use mathlib.Core.Logic.{⊎_elim, by_cases}
use mathlib.Core.Option.{Option, none, some}
use native.Mathlib.Decide.{ℕ_discrete, dec_lt}
use borrow.Author.Tests.{eq-eqb, eqb-true}
use lib.Dec.{eqb}
use lib.ListN.{length, get_or, set, replicate, take, drop, length-set, length-replicate, get_or-replicate}
use lib.Seq.{get_or-set_same, get_or-set_other, ext_get_or, get_or-take, get_or-drop}
use Rattle.paper.specs.Tools.{same, first_from}
use Rattle.paper.specs.Limits.{names_limit}
use Rattle.paper.specs.Names.{number_from, number_of}
use Rattle.paper.proofs.Tests.{decide}
use Rattle.paper.proofs.Searches.{first_none}
use Rattle.paper.proofs.Same.{same_refl, not_same, part_length}
use Rattle.name_lines.specs.declared.Part.{Part}
use Rattle.name_lines.specs.Lines.{said, part_of}
use Rattle.names.specs.Listing.{Indexed}
use Rattle.name_lines.proofs.Parts.{part_room}
use Rattle.name_lines.proofs.Firsts.{first_some}
use Rattle.initials.specs.Chains.{bytes_count, chains_count, link_of, first_byte, next_of, Chained}

-- THE NUMBER of a word: the first name that says it, or none.
number_at : (names : List (List ℕ)) (word : List ℕ) (at v : ℕ) → v < length names → ((u : ℕ) → u < v → same (get_or names u []) word ≡ false)
    → same (get_or names v []) word ≡ true → number_from at names word ≡ some (at + v)
number_at [] word at v l before here = absurd (omega arith)
number_at (n ∷ ns) word at zero l before here = rw here (ap some (sym (add-zero at)))
number_at (n ∷ ns) word at (suc v) l before here =
    let e : suc at + v ≡ at + suc v = omega arith in
    rw (before 0 (omega arith)) (number_at ns word (suc at) v (omega arith) (λ u k. before (suc u) (omega arith)) here ∙ ap some e)

number_missing : (names : List (List ℕ)) (word : List ℕ) (at : ℕ) → ((u : ℕ) → u < length names → same (get_or names u []) word ≡ false) → number_from at names word ≡ none
number_missing [] word at before = refl
number_missing (n ∷ ns) word at before = rw (before 0 (omega arith)) (number_missing ns word (suc at) (λ u k. before (suc u) (omega arith)))

module _ (names : List (List ℕ)) where
  -- LINKS.
  next_end : (b : ℕ) → next_of names b (length names) ≡ 0
  next_end b = let e : (length names) - (length names) ≡ 0 = omega arith in rw e

  next_here : (b v : ℕ) → v < (length names) → first_byte names v ≡ b → next_of names b v ≡ suc v
  next_here b v l e = let left : (length names) - v ≡ suc ((length names) - suc v) = omega arith in rw (left, eq-eqb (first_byte names v) b e)

  next_on : (b v : ℕ) → v < (length names) → eqb (first_byte names v) b ≡ false → next_of names b v ≡ next_of names b (suc v)
  next_on b v l e = let left : (length names) - v ≡ suc ((length names) - suc v) = omega arith in rw (left, e)

  -- The names from v on are linked.
  pub record Upto (chains : List ℕ) (v : ℕ) : Type 0 where
    pub long : length chains ≡ chains_count
    pub most : v ≤ (length names)
    pub heads : (b : ℕ) → b < bytes_count → get_or chains b 0 ≡ next_of names b v
    pub nexts : (u : ℕ) → v ≤ u → u < (length names) → get_or chains (bytes_count + u) 0 ≡ next_of names (first_byte names u) (suc u)
    pub rest : (i : ℕ) → bytes_count + (length names) ≤ i → i < chains_count → get_or chains i 0 ≡ 0

  pub none_linked : (chains : List ℕ) → chains ≡ replicate chains_count 0 → Upto chains (length names)
  none_linked chains e =
      record {
        long = ap length e ∙ length-replicate {A = ℕ} chains_count 0;
        most = omega arith;
        heads = λ b l. ap (λ c. get_or c b 0) e ∙ get_or-replicate chains_count b 0 0 (omega arith) ∙ sym (next_end b);
        nexts = λ u a l. absurd (omega arith);
        rest = λ i a l. ap (λ c. get_or c i 0) e ∙ get_or-replicate chains_count i 0 0 l;
      }

  pub one_linked : (chains : List ℕ) (n v first x y : ℕ) → Upto chains n → n ≡ suc v → length names ≤ names_limit → first ≡ first_byte names v → first < bytes_count → x ≡ get_or chains first 0 → y ≡ suc v
      → Upto (set (set chains (bytes_count + v) x) first y) v
  one_linked chains n v first x y h e few byte low hx hy =
      let one = set chains (bytes_count + v) x in
      let room : bytes_count + v < length chains = omega (arith, h.long, h.most) in
      let room-one : first < length one = omega (arith, length-set chains (bytes_count + v) x, h.long) in
      record {
        long = length-set one first y ∙ length-set chains (bytes_count + v) x ∙ h.long;
        most = omega (arith, h.most);
        heads = λ b l.
            by_cases (ℕ_discrete b first)
            (λ q. ap (λ k. get_or (set one first y) k 0) q ∙ get_or-set_same one first y 0 room-one ∙ hy ∙ sym (next_here b v (omega (arith, h.most)) (sym (q ∙ byte))))
            (λ q.
            get_or-set_other one first b y 0 q ∙ get_or-set_other chains (bytes_count + v) b x 0 (λ z. omega arith) ∙ h.heads b l
            ∙ ap (next_of names b) e
            ∙ sym (next_on b v (omega (arith, h.most)) (⊎_elim (λ t. absurd (q (sym (byte ∙ eqb-true (first_byte names v) b t)))) (λ t. t) (decide (eqb (first_byte names v) b)))));
        nexts = λ u a l.
            by_cases (ℕ_discrete u v)
            (λ q.
            get_or-set_other one first (bytes_count + u) y 0 (λ z. omega arith) ∙ ap (λ k. get_or one (bytes_count + k) 0) q ∙ get_or-set_same chains (bytes_count + v) x 0 room ∙ hx
            ∙ h.heads first low ∙ ap (next_of names first) e ∙ ap (λ k. next_of names k (suc v)) byte
            ∙ ap (λ k. next_of names (first_byte names k) (suc k)) (sym q))
            (λ q.
            get_or-set_other one first (bytes_count + u) y 0 (λ z. omega arith) ∙ get_or-set_other chains (bytes_count + v) (bytes_count + u) x 0 (λ z. q (omega arith)) ∙ h.nexts u (omega arith) l);
        rest = λ i a l. get_or-set_other one first i y 0 (λ z. omega arith) ∙ get_or-set_other chains (bytes_count + v) i x 0 (λ z. omega (arith, h.most)) ∙ h.rest i a l;
      }

  pub all_linked : (chains : List ℕ) (v : ℕ) → length names ≤ names_limit → Upto chains v → v ≡ 0 → Chained names chains
  all_linked chains v few h e =
      record { long = h.long; few = few; heads = λ b l. h.heads b l ∙ ap (next_of names b) e; nexts = λ u l. h.nexts u (omega arith) l; rest = h.rest }

  -- THE SEARCH for a word that is not empty.
  -- The names before the one that a link names are not the word; where it names none, no name is.
  pub record Seeks (word : List ℕ) (at : ℕ) : Type 0 where
    pub few : at ≤ (length names)
    pub differs : (u : ℕ) → u < (length names) → (0 < at → u < at - 1) → same (get_or names u []) word ≡ false
    pub begins : 0 < at → first_byte names (at - 1) ≡ get_or word 0 0

  module _ (word : List ℕ) where
    -- A name that begins otherwise is not the word.
    byte_differs : (v : ℕ) → eqb (first_byte names v) (get_or word 0 0) ≡ false → same (get_or names v []) word ≡ false
    byte_differs v e = not_same (get_or names v []) word (λ h. false≢true (sym e ∙ eq-eqb (first_byte names v) (get_or word 0 0) (ap (λ w. get_or w 0 0) h)))

    seeks : (from at : ℕ) → from ≤ length names → ((u : ℕ) → u < from → same (get_or names u []) word ≡ false) → at ≡ next_of names (get_or word 0 0) from → Seeks word at
    seeks from at l before e = go (first_from (length names - from) from (λ u. eqb (first_byte names u) (get_or word 0 0))) refl e
      where
        go : (o : Option ℕ) → first_from (length names - from) from (λ u. eqb (first_byte names u) (get_or word 0 0)) ≡ o → at ≡ link_of o → Seeks word at
        go none p q =
            record {
              few = omega arith;
              differs = λ u a b. by_cases (dec_lt u from) (λ c. before u c) (λ c. byte_differs u (first_none (length names - from) from (λ k. eqb (first_byte names k) (get_or word 0 0)) p u (omega arith) (omega arith)));
              begins = λ z. absurd (omega arith);
            }
        go (some v) p q =
            let f = first_some (length names - from) from (λ u. eqb (first_byte names u) (get_or word 0 0)) v p in
            let w : at - 1 ≡ v = omega arith in
            record {
              few = omega (arith, f.most);
              differs = λ u a b. by_cases (dec_lt u from) (λ c. before u c) (λ c. byte_differs u (f.before u (omega arith) (let z = b (omega arith) in omega arith)));
              begins = λ z. ap (first_byte names) w ∙ eqb-true (first_byte names v) (get_or word 0 0) f.here;
            }

    module _ (chains : List ℕ) (h : Chained names chains) where
      pub seek_first : get_or word 0 0 < bytes_count → Seeks word (get_or chains (get_or word 0 0) 0)
      seek_first l = seeks 0 (get_or chains (get_or word 0 0) 0) (omega arith) (λ u z. absurd (omega arith)) (h.heads (get_or word 0 0) l)

      pub seek-next : (at : ℕ) → Seeks word at → 0 < at → same (get_or names (at - 1) []) word ≡ false
          → Seeks word (get_or chains (bytes_count + (at - 1)) 0) × (0 < get_or chains (bytes_count + (at - 1)) 0 → at < get_or chains (bytes_count + (at - 1)) 0)
      seek-next at s l other =
          let v = at - 1 in
          let inside : at - 1 < length names = omega (arith, s.few) in
          let to : get_or chains (bytes_count + (at - 1)) 0 ≡ next_of names (get_or word 0 0) (suc (at - 1)) = h.nexts (at - 1) inside ∙ ap (λ b. next_of names b (suc (at - 1))) (s.begins l) in (
            seeks (suc (at - 1)) (get_or chains (bytes_count + (at - 1)) 0) (omega arith) (λ u z. by_cases (ℕ_discrete u (at - 1)) (λ c. subst (λ k. same (get_or names k []) word ≡ false) (sym c) other) (λ c. s.differs u (omega arith) (λ y. omega arith))) to,
            (λ z. omega (arith, further (at - 1) (get_or chains (bytes_count + (at - 1)) 0) to z)),
          )
        where
          further : (v next : ℕ) → next ≡ next_of names (get_or word 0 0) (suc v) → 0 < next → suc v < next
          further v next to z = go (first_from (length names - suc v) (suc v) (λ u. eqb (first_byte names u) (get_or word 0 0))) refl to
            where
              go : (o : Option ℕ) → first_from (length names - suc v) (suc v) (λ u. eqb (first_byte names u) (get_or word 0 0)) ≡ o → next ≡ link_of o → suc v < next
              go none p q = absurd (omega arith)
              go (some w) p q = omega (arith, (first_some (length names - suc v) (suc v) (λ u. eqb (first_byte names u) (get_or word 0 0)) w p).least)

    -- What was found is the first.
    pub found_first : (at : ℕ) → Seeks word at → 0 < at → same (get_or names (at - 1) []) word ≡ true → some (at - 1) ≡ number_of names word
    found_first at s l h = sym (number_at names word 0 (at - 1) (omega (arith, s.few)) (λ u z. s.differs u (omega (arith, s.few)) (λ y. omega arith)) h ∙ ap some (zero-add (at - 1)))

    pub none_found : (at : ℕ) → Seeks word at → at ≡ 0 → none ≡ number_of names word
    none_found at s e = sym (number_missing names word 0 (λ u z. s.differs u z (λ y. absurd (omega arith))))

-- How many links may still come.
abbrev pub left : ℕ → ℕ → ℕ
left count zero = 0
left count (suc v) = suc count - v

pub left_less : (count at next : ℕ) → 0 < at → at ≤ count → (0 < next → at < next) → left count next < left count at
left_less count zero next l m h = absurd (omega arith)
left_less count (suc v) zero l m h = omega arith
left_less count (suc v) (suc w) l m h = let f = h (omega arith) in omega arith

-- TWO LISTS OF BYTES.
pub whole_same : (line word : List ℕ) → length line ≡ length word → ((k : ℕ) → k < length line → get_or line k 0 ≡ get_or word k 0) → same line word ≡ true
whole_same line word e h = rw (ext_get_or 0 line word e h) (same_refl word)

pub whole_length_differs : (line word : List ℕ) → (length line ≡ length word → ⊥) → same line word ≡ false
whole_length_differs line word h = not_same line word (λ e. h (ap length e))

pub whole_differs : (line word : List ℕ) (k : ℕ) → k < length line → (get_or line k 0 ≡ get_or word k 0 → ⊥) → same line word ≡ false
whole_differs line word k l h = not_same line word (λ e. h (ap (λ w. get_or w k 0) e))

-- A WORD of a text that is not empty.
pub word_long : (text : List ℕ) (start len : ℕ) → 0 < len → start + len ≤ length text → 0 < length (take len (drop start text))
word_long text start len l h = omega (arith, part_length text [] start len h)

pub word_first : (text : List ℕ) (start len : ℕ) → 0 < len → start + len ≤ length text → get_or text start 0 ≡ get_or (take len (drop start text)) 0 0
word_first text start len l h =
    let e : start ≡ start + 0 = omega arith in ap (λ k. get_or text k 0) e ∙ sym (get_or-take len (drop start text) 0 0 l ∙ get_or-drop start text 0 0)

-- WHERE A NAME STANDS.
-- A name starts within the list.
pub start_inside : (list starts : List ℕ) {count : ℕ} → Indexed list starts count → (v : ℕ) (p : Part) → v < count → p ≡ part_of starts v → p.start < length list
start_inside list starts known v p l e = rw e (omega (arith, known.rising.rises v l, known.rising.within v l))

-- What a name says.
pub spelled_inside : (list starts : List ℕ) {count : ℕ} → Indexed list starts count → (v : ℕ) (p : Part) → v < count → p ≡ part_of starts v → p.start + p.len ≤ length list
spelled_inside list starts known v p l e = part_room known.rising v l p e

pub spelled_same : (list starts word : List ℕ) (v end : ℕ) (p : Part) (b : Bool) → p ≡ part_of starts v → end ≡ p.start + p.len → same (take (end - p.start) (drop p.start list)) word ≡ b
    → same (said list starts v) word ≡ b
spelled_same list starts word v end p b e f h =
    let n : end - p.start ≡ p.len = omega arith in
    subst (λ q. same (take q.len (drop q.start list)) word ≡ b) e (subst (λ m. same (take m (drop p.start list)) word ≡ b) n h)
