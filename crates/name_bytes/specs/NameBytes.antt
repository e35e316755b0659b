-- Productions 4 and 4a of XML 1.0, and what the bytes that refusal 12 takes for those of names owe to them; the proofs are in proofs/.
use Rattle.std.specs.Prelude.{ℕ, ◌≡◌, Bool, true, false, ◌||◌, List, [], ◌∷◌, ◌++◌, ◌↔◌, eqb}
use Rattle.paper.specs.Xml.{from, xml_start, xml_part, first_is}
use Rattle.xml_grammar.specs.Productions.{utf8}

-- Productions 4 and 4a: the characters with which a name of XML 1.0 begins, and those with which it goes on besides.
abbrev pub name_starts : List (ℕ × ℕ)
name_starts =
    (58, 58) ∷ (65, 90) ∷ (95, 95) ∷ (97, 122) ∷ (192, 214) ∷ (216, 246) ∷ (248, 767) ∷ (880, 893) ∷ (895, 8191) ∷ (8204, 8205) ∷ (8304, 8591) ∷ (11264, 12271) ∷ (12289, 55295)
    ∷ (63744, 64975) ∷ (65008, 65533) ∷ (65536, 983039) ∷ []

abbrev pub name_more : List (ℕ × ℕ)
name_more = (45, 45) ∷ (46, 46) ∷ (48, 57) ∷ (183, 183) ∷ (768, 879) ∷ (8255, 8256) ∷ []

abbrev pub in_some : List (ℕ × ℕ) → ℕ → Bool
in_some [] c = false
in_some (r ∷ rs) c = from r.0 r.1 c || in_some rs c

-- NAME BYTES: of the characters with which names of XML 1.0 begin, and go on, these are the first bytes in UTF-8.
abbrev pub StartBytes : Type 0
StartBytes = (b : ℕ) → (xml_start b ≡ true) ↔ ((c : ℕ) × (in_some name_starts c ≡ true) × (first_is (eqb b) (utf8 c) ≡ true))

abbrev pub PartBytes : Type 0
PartBytes = (b : ℕ) → (xml_part b ≡ true) ↔ ((c : ℕ) × (in_some (name_more ++ name_starts) c ≡ true) × (first_is (eqb b) (utf8 c) ≡ true))
