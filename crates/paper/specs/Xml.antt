-- 02, 2026-01: XML text into the table. A text is judged byte by byte, as an automaton with the elements that are open; then its nodes in document order.
use Rattle.std.specs.Prelude.{ℕ, zero, suc, ◌+◌, Bool, true, false, not, ◌&&◌, ◌||◌, cond, List, [], ◌∷◌, ◌++◌, map, eqb, leb, take, drop}
use Prim.Native.String.{String}
use Rattle.std.proofs.Math.Option.{Option, none, some}
use Rattle.paper.specs.Tools.{ascii, same, begins, run_of}
use Rattle.paper.specs.Names.{letter, name_start, name_part}
use Rattle.paper.specs.Tokens.{white}
use Rattle.paper.specs.Document.{element_kind}

-- A row of nodes beside each other, each with the place of its first byte and the place past its last; an element has its name and what is inside it.
pub data Nodes : Type 0 where
  nothing : Nodes
  element : List ℕ → ℕ → ℕ → Nodes → Nodes → Nodes
  chars : ℕ → ℕ → Nodes → Nodes

-- Two rows, one after the other.
abbrev pub beside : Nodes → Nodes → Nodes
beside nothing more = more
beside (element name begin end inside rest) more = element name begin end inside (beside rest more)
beside (chars begin end rest) more = chars begin end (beside rest more)

-- BYTES.

-- A byte from `low` to `high`.
abbrev pub from : ℕ → ℕ → ℕ → Bool
from low high b = leb low b && leb b high

abbrev pub digit : ℕ → Bool
digit b = from 48 57 b

-- A character of one byte (XML 1.0, production 2); `<`, `&`, `>` and `]` are seen to before.
abbrev pub plain : ℕ → Bool
plain b = from 32 127 b || eqb b 9 || eqb b 10 || eqb b 13

-- The bytes with which a name of XML 1.0 begins in UTF-8, and those with which it goes on (productions 4 and 4a).
abbrev pub xml_start : ℕ → Bool
xml_start b = name_start b || eqb b 58 || from 195 203 b || from 205 237 b || from 239 243 b

abbrev pub xml_part : ℕ → Bool
xml_part b = name_part b || xml_start b || eqb b 194 || eqb b 204

-- PATTERNS: what must come, byte by byte.

-- One byte of a set, any number of such bytes, one of two, or nothing more; `encoding` stands behind the quote that opens the encoding's value.
pub data Pattern : Type 0 where
  done : Pattern
  one : (ℕ → Bool) → Pattern → Pattern
  many : (ℕ → Bool) → Pattern → Pattern
  fork : Pattern → Pattern → Pattern
  encoding : ℕ → Pattern → Pattern

-- Of two ways those that can go on.
abbrev pub ways : Option Pattern → Option Pattern → Option Pattern
ways none q = q
ways (some p) none = some p
ways (some p) (some q) = some (fork p q)

-- What must come after the byte; nothing where the byte may not come.
abbrev pub after : Pattern → ℕ → Option Pattern
after done b = none
after (one set p) b = cond (set b) (some p) none
after (many set p) b = let passed = after p b in cond (set b) (some (many set p)) passed
after (fork p q) b = ways (after p b) (after q b)
after (encoding quote p) b = after p b

-- Must nothing more come?
abbrev pub is_done : Pattern → Bool
is_done done = true
is_done (one set p) = false
is_done (many set p) = false
is_done (fork p q) = false
is_done (encoding quote p) = false

-- The quote behind which an encoding's value begins.
abbrev pub quote_of : Pattern → Option ℕ
quote_of done = none
quote_of (one set p) = none
quote_of (many set p) = none
quote_of (fork p q) = none
quote_of (encoding quote p) = some quote

-- These bytes, then what follows.
abbrev pub say : List ℕ → Pattern → Pattern
say [] p = p
say (b ∷ bs) p = one (eqb b) (say bs p)

-- White space, at least one; and a value in quotes, the same on both sides.
abbrev pub gap : Pattern → Pattern
gap p = one white (many white p)

abbrev pub quoted : (ℕ → Pattern) → Pattern
quoted value = fork (one (eqb 34) (value 34)) (one (eqb 39) (value 39))

-- A name of the declaration, `=`, and its value.
abbrev pub given : String → (ℕ → Pattern) → Pattern
given name value = gap (say (ascii name) (many white (one (eqb 61) (many white (quoted value)))))

-- The declaration behind `<?xml`: version, encoding and standalone, the last two if they are there.
abbrev pub declaration_end : Pattern
declaration_end = many white (say (ascii "?>") done)

abbrev pub after_encoding : Pattern
after_encoding =
    fork (given "standalone" (λ q. fork (say (ascii "yes") (one (eqb q) declaration_end)) (say (ascii "no") (one (eqb q) declaration_end))))
    declaration_end

-- A letter, small or capital.
abbrev pub any_case : ℕ → ℕ → Bool
any_case small b = eqb b small || eqb (b + 32) small

abbrev pub after_version : Pattern
after_version =
    fork (given "encoding" (λ q. encoding q (one (any_case 117) (one (any_case 116) (one (any_case 102) (say (ascii "-8") (one (eqb q) after_encoding)))))))
    after_encoding

abbrev pub declaration : Pattern
declaration = given "version" (λ q. say (ascii "1.") (one digit (many digit (one (eqb q) after_version))))

-- A reference behind its `&`.
abbrev pub reference : Pattern
reference =
    fork (say (ascii "lt;") done)
    (fork (say (ascii "gt;") done)
    (fork (say (ascii "amp;") done)
    (fork (say (ascii "apos;") done)
    (say (ascii "quot;") done))))

-- A character of several bytes in UTF-8: no sequence that is too long, no surrogate, not FFFE and FFFF.
abbrev pub tail : Pattern → Pattern
tail p = one (from 128 191) p

abbrev pub wide : Pattern
wide =
    fork (one (from 194 223) (tail done))
    (fork (one (eqb 224) (one (from 160 191) (tail done)))
    (fork (one (from 225 236) (tail (tail done)))
    (fork (one (eqb 237) (one (from 128 159) (tail done)))
    (fork (one (eqb 238) (tail (tail done)))
    (fork (one (eqb 239) (fork (one (from 128 190) (tail done)) (one (eqb 191) (one (from 128 189) done))))
    (fork (one (eqb 240) (one (from 144 191) (tail (tail done))))
    (fork (one (from 241 243) (tail (tail (tail done))))
    (one (eqb 244) (one (from 128 143) (tail (tail done)))))))))))

-- WHERE READING STANDS.

-- An element that is open: its name, where it begins, and what was read inside it.
pub record Frame : Type 0 where
  pub name : List ℕ
  pub begin : ℕ
  pub inside : Nodes

-- Between two bytes; the elements that are open stand beside it, the innermost first.
pub data Mode : Type 0 where
  -- At place 0; past a `<` at place 0; in the declaration; before the element.
  start first : Mode
  heading : Pattern → Mode
  ahead : Mode
  -- Past the `<` at a place; in the name of the start tag that begins there, past white space in it, past the `/` of an empty element.
  opening : ℕ → Mode
  in_name in_tag emptied : ℕ → List ℕ → Mode
  -- In an element, where no run of characters is under way; in a run that begins there and ends with so many `]`, 2 at most; in a character or a reference of it.
  content : Mode
  run : ℕ → ℕ → Mode
  partly : ℕ → Pattern → Mode
  -- In an end tag, with what is left of its name; past the element.
  closing : List ℕ → Mode
  ended : Nodes → Mode

pub record State : Type 0 where
  pub mode : Mode
  pub frames : List Frame

abbrev pub stands : Mode → List Frame → Option State
stands mode frames = some (record { mode = mode; frames = frames })

-- A frame with a node more.
abbrev pub with : Frame → Nodes → Frame
with f node = record { name = f.name; begin = f.begin; inside = beside f.inside node }

-- A node is read, inside the innermost open element or as the one element.
abbrev pub add : Nodes → List Frame → Option State
add node [] = stands (ended node) []
add node (f ∷ fs) = stands content (with f node ∷ fs)

-- An end tag ends with the byte before this place.
abbrev pub close : ℕ → List Frame → Option State
close end [] = none
close end (f ∷ fs) = add (element f.name f.begin end f.inside nothing) fs

-- A run of characters ends before this place, where a tag begins.
abbrev pub run_ends : ℕ → ℕ → List Frame → Option State
run_ends begin at [] = none
run_ends begin at (f ∷ fs) = stands (opening at) (with f (chars begin at nothing) ∷ fs)

-- An end tag begins, where an element is open.
abbrev pub end_opens : List Frame → Option State
end_opens [] = none
end_opens (f ∷ fs) = stands (closing f.name) (f ∷ fs)

-- What follows the `<`: a name's first byte, or the `/` of an end tag.
abbrev pub name_or_slash : ℕ → List Frame → ℕ → Option State
name_or_slash begin frames b = cond (name_start b) (stands (in_name begin (b ∷ [])) frames) (cond (eqb b 47) (end_opens frames) none)

-- White space or the end of a start tag.
abbrev pub tag_goes_on : ℕ → List ℕ → List Frame → ℕ → Option State
tag_goes_on begin name frames b =
    cond (white b) (stands (in_tag begin name) frames)
    (cond (eqb b 47) (stands (emptied begin name) frames)
    (cond (eqb b 62) (stands content (record { name = name; begin = begin; inside = nothing } ∷ frames))
    none))

-- In a character or a reference: what must come, or the run goes on.
abbrev pub goes_on : ℕ → List Frame → Option Pattern → Option State
goes_on begin frames none = none
goes_on begin frames (some p) = cond (is_done p) (stands (run begin 0) frames) (stands (partly begin p) frames)

-- One `]` more, 2 at most.
abbrev pub squares : ℕ → ℕ
squares zero = 1
squares (suc k) = 2

-- A byte of a run that ends with k `]`: `>` may not end `]]>`.
abbrev pub char_goes_on : ℕ → ℕ → List Frame → ℕ → Option State
char_goes_on begin k frames b =
    cond (eqb b 38) (stands (partly begin reference) frames)
    (cond (eqb b 93) (stands (run begin (squares k)) frames)
    (cond (eqb b 62 && eqb k 2) none
    (cond (plain b) (stands (run begin 0) frames)
    (goes_on begin frames (after wide b)))))

-- In the declaration: what must come, or the place before the element.
abbrev pub heading_goes_on : Option Pattern → Option State
heading_goes_on none = none
heading_goes_on (some p) = cond (is_done p) (stands ahead []) (stands (heading p) [])

-- Where reading stands after the byte at a place; nowhere if no wanted text goes on with it.
abbrev pub step_mode : Mode → ℕ → List Frame → ℕ → Option State
step_mode start at frames b = cond (white b) (stands ahead frames) (cond (eqb b 60) (stands first frames) none)
step_mode first at frames b =
    cond (eqb b 63) (stands (heading (say (ascii "xml") declaration)) frames) (name_or_slash 0 frames b)
step_mode (heading p) at frames b = heading_goes_on (after p b)
step_mode ahead at frames b = cond (white b) (stands ahead frames) (cond (eqb b 60) (stands (opening at) frames) none)
step_mode (opening begin) at frames b = name_or_slash begin frames b
step_mode (in_name begin name) at frames b =
    cond (name_part b) (stands (in_name begin (name ++ (b ∷ []))) frames) (tag_goes_on begin name frames b)
step_mode (in_tag begin name) at frames b = tag_goes_on begin name frames b
step_mode (emptied begin name) at frames b = cond (eqb b 62) (add (element name begin (suc at) nothing nothing) frames) none
step_mode content at frames b = cond (eqb b 60) (stands (opening at) frames) (char_goes_on at 0 frames b)
step_mode (run begin k) at frames b = cond (eqb b 60) (run_ends begin at frames) (char_goes_on begin k frames b)
step_mode (partly begin p) at frames b = goes_on begin frames (after p b)
step_mode (closing []) at frames b = cond (white b) (stands (closing []) frames) (cond (eqb b 62) (close (suc at) frames) none)
step_mode (closing (x ∷ xs)) at frames b = cond (eqb b x) (stands (closing xs) frames) none
step_mode (ended tree) at frames b = cond (white b) (stands (ended tree) frames) none

abbrev pub step : ℕ → State → ℕ → Option State
step at s b = step_mode s.mode at s.frames b

-- WHAT IS LEFT OUT.

-- Do the bytes begin so?
abbrev pub starts : List ℕ → List ℕ → Bool
starts [] bs = true
starts (x ∷ xs) [] = false
starts (x ∷ xs) (b ∷ bs) = eqb b x && starts xs bs

-- Is the first of the bytes in the set?
abbrev pub first_is : (ℕ → Bool) → List ℕ → Bool
first_is set [] = false
first_is set (b ∷ bs) = set b

-- An encoding name: a letter, then letters, digits, `.`, `_` and `-`.
abbrev pub encoding_part : ℕ → Bool
encoding_part b = letter b || digit b || eqb b 46 || eqb b 95 || eqb b 45

-- A small letter for a capital one.
abbrev pub lower : ℕ → ℕ
lower b = cond (from 65 90 b) (b + 32) b

-- Does an encoding name in closed quotes stand here that is not UTF-8, in any case of letters?
abbrev pub other_encoding : Option ℕ → List ℕ → Bool
other_encoding none bs = false
other_encoding (some quote) bs =
    let n = run_of encoding_part bs in
    first_is letter bs && begins quote (drop n bs) && not (same (map lower (take n bs)) (ascii "utf-8"))

-- Does `<!`, `&#` or `<?` stand here?
abbrev pub left_out_anywhere : List ℕ → Bool
left_out_anywhere bs = starts (ascii "<!") bs || starts (ascii "&#") bs || starts (ascii "<?") bs

-- Does the declaration begin here, with `<?xml` and white space?
abbrev pub declares : List ℕ → Bool
declares bs = starts (ascii "<?xml") bs && first_is white (drop 5 bs)

-- Does a thing that is left out open here?
unfoldable pub left_out : Mode → List ℕ → Bool
left_out start bs = left_out_anywhere bs && not (declares bs) || starts (239 ∷ 187 ∷ 191 ∷ []) bs
left_out first bs = left_out_anywhere bs || first_is (λ b. xml_start b && not (name_start b)) bs
left_out (heading p) bs = left_out_anywhere bs || other_encoding (quote_of p) bs
left_out ahead bs = left_out_anywhere bs
left_out (opening begin) bs = left_out_anywhere bs || first_is (λ b. xml_start b && not (name_start b)) bs
left_out (in_name begin name) bs = left_out_anywhere bs || first_is (λ b. xml_part b && not (name_part b)) bs
left_out (in_tag begin name) bs = left_out_anywhere bs || first_is xml_start bs
left_out (emptied begin name) bs = left_out_anywhere bs
left_out content bs = left_out_anywhere bs
left_out (run begin k) bs = left_out_anywhere bs
left_out (partly begin p) bs = left_out_anywhere bs
left_out (closing name) bs = left_out_anywhere bs
left_out (ended tree) bs = left_out_anywhere bs

-- THE TEXT.

-- What a text is: the one element and all inside it, or a refusal number with a place.
pub data Judged : Type 0 where
  wanted : Nodes → Judged
  unwanted : ℕ → ℕ → Judged

-- Where the text ends.
abbrev pub at_end : Mode → ℕ → Judged
at_end start at = unwanted 11 at
at_end first at = unwanted 11 at
at_end (heading p) at = unwanted 11 at
at_end ahead at = unwanted 11 at
at_end (opening begin) at = unwanted 11 at
at_end (in_name begin name) at = unwanted 11 at
at_end (in_tag begin name) at = unwanted 11 at
at_end (emptied begin name) at = unwanted 11 at
at_end content at = unwanted 11 at
at_end (run begin k) at = unwanted 11 at
at_end (partly begin p) at = unwanted 11 at
at_end (closing name) at = unwanted 11 at
at_end (ended tree) at = wanted tree

-- What comes next; refusal 11 where no wanted text goes on.
abbrev pub onward : ℕ → Option State → (State → Judged) → Judged
onward at none next = unwanted 11 at
onward at (some s) next = next s

-- The bytes from a place on, judged from where reading stands: 12 before 11 at one place.
abbrev pub judge : ℕ → State → List ℕ → Judged
judge at s [] = at_end s.mode at
judge at s (b ∷ bs) =
    let next = onward at (step at s b) (λ t. judge (suc at) t bs) in
    cond (left_out s.mode (b ∷ bs)) (unwanted 12 at) next

unfoldable pub read_xml : List ℕ → Judged
read_xml text = judge 0 (record { mode = start; frames = [] }) text

-- THE TABLE.

-- How many nodes.
abbrev pub count : Nodes → ℕ
count nothing = 0
count (element name begin end inside rest) = suc (count inside + count rest)
count (chars begin end rest) = suc (count rest)

-- What a node is: the root, text, or an element of this name.
pub data What : Type 0 where
  root text : What
  named : List ℕ → What

-- A line of the table: the parent's number, what the node is, and its place.
pub record Row : Type 0 where
  pub parent : ℕ
  pub what : What
  pub begin : ℕ
  pub end : ℕ

abbrev pub row : ℕ → What → ℕ → ℕ → Row
row parent what begin end = record { parent = parent; what = what; begin = begin; end = end }

-- The nodes in document order from number n on, under the node `up`.
abbrev pub rows : ℕ → ℕ → Nodes → List Row
rows up n nothing = []
rows up n (element name begin end inside rest) =
    row up (named name) begin end ∷ rows n (suc n) inside ++ rows up (suc n + count inside) rest
rows up n (chars begin end rest) = row up text begin end ∷ rows up (suc n) rest

-- The whole table: the root, whose place is the whole text, and the nodes below it.
abbrev pub table : ℕ → Nodes → List Row
table long tree = row 0 root 0 long ∷ rows 0 1 tree

-- The kind of a node, by the numbers of the names; a name that the list lacks is refused before.
abbrev pub name_kind : Option ℕ → ℕ
name_kind none = element_kind
name_kind (some v) = element_kind + v

abbrev pub kind_by : (List ℕ → Option ℕ) → What → ℕ
kind_by look root = 0
kind_by look text = 1
kind_by look (named name) = name_kind (look name)

-- Refusal 5: where the first start tag's name begins that the list lacks.
abbrev pub lacks : (List ℕ → Option ℕ) → What → Bool
lacks look root = false
lacks look text = false
lacks look (named name) = is_none (look name)
  where
    is_none : Option ℕ → Bool
    is_none none = true
    is_none (some v) = false

abbrev pub unnamed : (List ℕ → Option ℕ) → List Row → Option ℕ
unnamed look [] = none
unnamed look (r ∷ rs) = let later = unnamed look rs in cond (lacks look r.what) (some (suc r.begin)) later
