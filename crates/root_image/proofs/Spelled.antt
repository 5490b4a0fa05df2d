-- Lines are what their texts say, and no other texts say them.
use Rattle.std.proofs.Common.{◌≡◌, ℕ, suc, ◌+◌, ◌<◌, ◌≤◌, ◌^◌, ◌==◌, ◌⊎◌, inl, inr, Bool, true, false, cond, List, [], ◌∷◌, ◌++◌, length, take, drop, Option, Some, None, is_none, refl, sym, ap, subst, ◌∙◌, arith, rules, add-one, length-append, nat_lt, lt-ltb, ne_eqb, ◌/◌, ◌%◌}
use Rattle.std.specs.Prelude.{All, codes}
use Rattle.std.specs.Option.{option_map, option_and_then}
use Rattle.std.specs.List.{position_or_len}
use Rattle.std.specs.Cmp.Lexicographic.{bytes_decides}
use Rattle.std.specs.Fmt.{decimal}
use Rattle.std.proofs.lemmas.List.{take-append-drop}
use Rattle.std.proofs.lemmas.List.Elements.{All-cons, All-nil, All-head, All-tail, All-weaker}
use Rattle.std.proofs.lemmas.List.Sums.{passes_at_first, split_at_first}
use Rattle.std.proofs.lemmas.Bool.{eqb-true, ltb-true}
use Rattle.br_path.specs.Mode.{octal}
use Rattle.br_path.specs.Text.{is_text}
use Rattle.br_path.specs.Path.{Names, IsPath, parts, path_text}
use Rattle.br_path.specs.PathFault.{path_fault}
use Rattle.br_path.proofs.Faults.{IsPath-path_fault, path_fault-IsPath, parts-path_text, path_text-parts}
use Rattle.root_image.specs.Lines.{Line, HeadLine, DirLine, LinkLine, FileLine, SameLine, TextLine, BytesLine, EndLine, line_text, rooted}
use Rattle.root_image.specs.Words.{behind, is_number, path_behind, path_at, cut_at, word_of, mode_of, number_of, bytes_of, mode_word, size_word, sized_line, dir_line, file_line, entry_line, text_line, when}
use Rattle.root_image.specs.Reading.{Place, AtHead, Between, InFile, InLink, InSame, Ended, line_in}
use Rattle.root_image.specs.Spelling.{IsLine, IsNumbered, MayStand}
use Rattle.root_image.proofs.Digits.{passed, map_some, then_some, mode_of-octal, octal-mode_of, number_of-decimal, decimal-number_of, is_number-decimal, digits_within, bytes_of-encode, encode-bytes_of}

-- what stands after a word
pub behind-some : (word text rest : List ℕ) → behind word text ≡ Some rest → text ≡ word ++ rest
behind-some word text rest is =
    let passes = passed (is_text (take (length word) text) word) (drop (length word) text) rest is in
    sym (take-append-drop (length word) text) ∙ ap (λ front. front ++ drop (length word) text) ((bytes_decides (take (length word) text) word).0 passes.0) ∙ ap (λ back. word ++ back) passes.1

front_of : (word rest : List ℕ) → take (length word) (word ++ rest) ≡ word
front_of [] rest = refl
front_of (byte ∷ word) rest = ap (λ w. byte ∷ w) (front_of word rest)

back_of : (word rest : List ℕ) → drop (length word) (word ++ rest) ≡ rest
back_of [] rest = refl
back_of (byte ∷ word) rest = back_of word rest

pub behind-word : (word rest : List ℕ) → behind word (word ++ rest) ≡ Some rest
behind-word word rest =
    let same : is_text (take (length word) (word ++ rest)) word ≡ true = (bytes_decides _ _).1 (front_of word rest) in
    rw same (ap Some (back_of word rest))

-- the path of a text
pub path_at-some : (text : List ℕ) (path : Names) → path_at text ≡ Some path → IsPath path × (text ≡ rooted path)
path_at-some text path is =
    let slash = then_some path_behind (behind (codes "/") text) path is in
    let spelled = behind-some (codes "/") text slash.0 slash.1 in
    let said = by slash.0 slash.2 in
    (said.0, spelled ∙ ap (λ rest. 47 ∷ rest) said.1)
  where
    by : (rest : List ℕ) → path_behind rest ≡ Some path → IsPath path × (rest ≡ path_text path)
    by [] is = let root : [] ≡ path = cc in subst (λ p. IsPath p × ([] ≡ path_text p)) root (record { legal = search rules; short = omega arith }, refl)
    by (byte ∷ rest) is =
        let passes = passed (is_none (path_fault (byte ∷ rest))) (parts (byte ∷ rest)) path is in
        let legal = IsPath-path_fault (byte ∷ rest) (none (path_fault (byte ∷ rest)) passes.0) in
        subst (λ p. IsPath p × (byte ∷ rest ≡ path_text p)) passes.1 (legal, sym (path_text-parts (byte ∷ rest)))
      where
        none : {A : Type 0} (o : Option A) → is_none o ≡ true → o ≡ None
        none None is = refl
        none (Some x) is = cc

pub path_at-rooted : (path : Names) → IsPath path → path_at (rooted path) ≡ Some path
path_at-rooted [] path = refl
path_at-rooted (name ∷ names) path = by (path_text (name ∷ names)) (path_fault-IsPath (name ∷ names) path (λ none. cc)) (parts-path_text (name ∷ names) path.legal (λ none. cc))
  where
    by : (text : List ℕ) → path_fault text ≡ None → parts text ≡ name ∷ names → path_behind text ≡ Some (name ∷ names)
    by [] legal is = cc
    by (byte ∷ text) legal is = rw legal (ap Some is)

-- words before the first blank
pub word-some : (text : List ℕ) (cut : List ℕ × List ℕ) → word_of text ≡ Some cut → text ≡ cut.0 ++ 32 ∷ cut.1
word-some text cut is =
    by (nat_lt (position_or_len (λ byte. byte == 32) text) (length text)) refl is
  where
    by : (b : Bool) → nat_lt (position_or_len (λ byte. byte == 32) text) (length text) ≡ b → cut_at (cond b (Some (position_or_len (λ byte. byte == 32) text)) None) text ≡ Some cut → text ≡ cut.0 ++ 32 ∷ cut.1
    by true lt is =
        let within = ltb-true _ _ lt in
        let here = eqb-true _ 32 (passes_at_first (λ byte. byte == 32) text 0 within) in
        let same : (take (position_or_len (λ byte. byte == 32) text) text, drop (position_or_len (λ byte. byte == 32) text + 1) text) ≡ cut = cc in
        subst (λ c. text ≡ c.0 ++ 32 ∷ c.1) same
        (split_at_first (λ byte. byte == 32) text 0 within ∙ ap (λ b. take (position_or_len (λ byte. byte == 32) text) text ++ b ∷ drop (position_or_len (λ byte. byte == 32) text + 1) text) here)
    by false lt is = cc

position-front : (front rest : List ℕ) → All (λ byte. (byte == 32) ≡ false) front → position_or_len (λ byte. byte == 32) (front ++ 32 ∷ rest) ≡ length front
position-front [] rest all = refl
position-front (byte ∷ front) rest all =
    let other = All-head (λ byte. (byte == 32) ≡ false) byte front all in
    let back = position-front front rest (All-tail (λ byte. (byte == 32) ≡ false) byte front all) in
    rw other (omega (arith, back))

pub word-front : (front rest : List ℕ) → All (λ byte. (byte == 32) ≡ false) front → word_of (front ++ 32 ∷ rest) ≡ Some (front, rest)
word-front front rest all =
    let at = position-front front rest all in
    let within : nat_lt (length front) (length (front ++ 32 ∷ rest)) ≡ true = lt-ltb _ _ (omega (arith, length-append front (32 ∷ rest))) in
    let next : drop (length front + 1) (front ++ 32 ∷ rest) ≡ rest = ap (λ n. drop n (front ++ 32 ∷ rest)) (add-one (length front)) ∙ drop_next front rest in
    rw (at, within) (λ i. Some (front_of front (32 ∷ rest) i, next i))
  where
    drop_next : (front rest : List ℕ) → drop (suc (length front)) (front ++ 32 ∷ rest) ≡ rest
    drop_next [] rest = refl
    drop_next (byte ∷ front) rest = drop_next front rest

-- ---- the lines

above : (byte : ℕ) → 33 ≤ byte → (byte == 32) ≡ false
above byte high = ne_eqb byte 32 (λ same. absurd (omega arith))

four_above : (a b c d : ℕ) → 33 ≤ a → 33 ≤ b → 33 ≤ c → 33 ≤ d → All (λ byte. (byte == 32) ≡ false) (a ∷ b ∷ c ∷ d ∷ [])
four_above a b c d at_a at_b at_c at_d =
    All-cons (λ byte. (byte == 32) ≡ false) a (b ∷ c ∷ d ∷ []) (above a at_a)
    (All-cons (λ byte. (byte == 32) ≡ false) b (c ∷ d ∷ []) (above b at_b)
    (All-cons (λ byte. (byte == 32) ≡ false) c (d ∷ []) (above c at_c)
    (All-cons (λ byte. (byte == 32) ≡ false) d [] (above d at_d) (All-nil (λ byte. (byte == 32) ≡ false)))))

octal_is_word : (mode : ℕ) → All (λ byte. (byte == 32) ≡ false) (octal mode)
octal_is_word mode = four_above (48 + mode / 512 % 8) (48 + mode / 64 % 8) (48 + mode / 8 % 8) (48 + mode % 8) (omega arith) (omega arith) (omega arith) (omega arith)

-- decimal digits are no blanks
number_is_word : (digits : List ℕ) → is_number digits ≡ true → All (λ byte. (byte == 32) ≡ false) digits
number_is_word digits is = All-weaker (λ byte. (48 ≤ byte) × (byte ≤ 57)) (λ byte. (byte == 32) ≡ false) (λ byte within. ne_eqb byte 32 (λ same. absurd (let low = within.0 in omega arith))) digits (digits_within digits is)

decimal_is_word : (n : ℕ) → n < 2 ^ 64 → All (λ byte. (byte == 32) ≡ false) (decimal n)
decimal_is_word n small = number_is_word (decimal n) (is_number-decimal n small)

read-mode : (mode : ℕ) (rest : List ℕ) → mode < 4096 → mode_word (octal mode ++ 32 ∷ rest) ≡ Some (mode, rest)
read-mode mode rest small =
    ap (option_and_then (λ cut. option_map (λ mode. (mode, cut.1)) (mode_of cut.0))) (word-front (octal mode) rest (octal_is_word mode))
    ∙ ap (option_map (λ m. (m, rest))) (mode_of-octal mode small)

read-size : (size : ℕ) (rest : List ℕ) → size < 2 ^ 64 → size_word (decimal size ++ 32 ∷ rest) ≡ Some (size, rest)
read-size size rest few =
    ap (option_and_then (λ cut. option_map (λ size. (size, cut.1)) (number_of cut.0))) (word-front (decimal size) rest (decimal_is_word size few))
    ∙ ap (option_map (λ n. (n, rest))) (number_of-decimal size few)

read-dir : (mode : ℕ) (path : Names) → mode < 4096 → IsPath path → dir_line (octal mode ++ 32 ∷ rooted path) ≡ Some (DirLine mode path)
read-dir mode path small legal =
    ap (option_and_then (λ word. option_map (λ path. DirLine word.0 path) (path_at word.1))) (read-mode mode (rooted path) small)
    ∙ ap (option_map (λ path. DirLine mode path)) (path_at-rooted path legal)

read-file : (mode size : ℕ) (path : Names) → mode < 4096 → size < 2 ^ 64 → IsPath path → file_line (octal mode ++ 32 ∷ (decimal size ++ 32 ∷ rooted path)) ≡ Some (FileLine mode size path)
read-file mode size path small few legal =
    ap (option_and_then (λ word. sized_line word.0 word.1)) (read-mode mode (decimal size ++ 32 ∷ rooted path) small)
    ∙ ap (option_and_then (λ word. option_map (λ path. FileLine mode word.0 path) (path_at word.1))) (read-size size (rooted path) few)
    ∙ ap (option_map (λ path. FileLine mode size path)) (path_at-rooted path legal)

-- a line is read from its text
pub line-read : (place : Place) (line : Line) → MayStand place line → IsLine line → IsNumbered line → line_in place (line_text line) ≡ Some line
line-read AtHead HeadLine may is few = refl
line-read Between (DirLine mode path) may is few = read-dir mode path is.0 is.1
line-read Between (LinkLine path) may is few = ap (option_map LinkLine) (path_at-rooted path is)
line-read Between (FileLine mode size path) may is few = read-file mode size path is.0 few is.1
line-read Between (SameLine path) may is few = ap (option_map SameLine) (path_at-rooted path is)
line-read Between (EndLine count) may is few = ap (option_map EndLine) (number_of-decimal count few)
line-read (InLink path) (TextLine text) may is few = refl
line-read (InSame path) (TextLine text) may is few = refl
line-read (InFile path mode size bytes) (BytesLine piece) may is few = ap (option_map BytesLine) (bytes_of-encode piece is)
line-read AtHead (DirLine mode path) may is few = absurd may
line-read AtHead (LinkLine path) may is few = absurd may
line-read AtHead (FileLine mode size path) may is few = absurd may
line-read AtHead (SameLine path) may is few = absurd may
line-read AtHead (TextLine text) may is few = absurd may
line-read AtHead (BytesLine piece) may is few = absurd may
line-read AtHead (EndLine count) may is few = absurd may
line-read Between HeadLine may is few = absurd may
line-read Between (TextLine text) may is few = absurd may
line-read Between (BytesLine piece) may is few = absurd may
line-read (InLink path) HeadLine may is few = absurd may
line-read (InLink path) (DirLine mode at) may is few = absurd may
line-read (InLink path) (LinkLine at) may is few = absurd may
line-read (InLink path) (FileLine mode size at) may is few = absurd may
line-read (InLink path) (SameLine at) may is few = absurd may
line-read (InLink path) (BytesLine piece) may is few = absurd may
line-read (InLink path) (EndLine count) may is few = absurd may
line-read (InSame path) HeadLine may is few = absurd may
line-read (InSame path) (DirLine mode at) may is few = absurd may
line-read (InSame path) (LinkLine at) may is few = absurd may
line-read (InSame path) (FileLine mode size at) may is few = absurd may
line-read (InSame path) (SameLine at) may is few = absurd may
line-read (InSame path) (BytesLine piece) may is few = absurd may
line-read (InSame path) (EndLine count) may is few = absurd may
line-read (InFile path m s b) HeadLine may is few = absurd may
line-read (InFile path m s b) (DirLine mode at) may is few = absurd may
line-read (InFile path m s b) (LinkLine at) may is few = absurd may
line-read (InFile path m s b) (FileLine mode size at) may is few = absurd may
line-read (InFile path m s b) (SameLine at) may is few = absurd may
line-read (InFile path m s b) (TextLine text) may is few = absurd may
line-read (InFile path m s b) (EndLine count) may is few = absurd may
line-read Ended line may is few = absurd may

-- what a text that is a line says
abbrev Says : Place → List ℕ → Line → Type 0
Says place text line = MayStand place line × IsLine line × (text ≡ line_text line)

mode-said : (text : List ℕ) (word : ℕ × List ℕ) → mode_word text ≡ Some word → (word.0 < 4096) × (text ≡ octal word.0 ++ 32 ∷ word.1)
mode-said text word is =
    let cut = then_some (λ cut. option_map (λ mode. (mode, cut.1)) (mode_of cut.0)) (word_of text) word is in
    let mode = map_some (λ mode. (mode, cut.0.1)) (mode_of cut.0.0) word cut.2 in
    let digits = octal-mode_of cut.0.0 mode.0 mode.1 in
    let spelled : text ≡ octal mode.0 ++ 32 ∷ cut.0.1 = word-some text cut.0 cut.1 ∙ ap (λ front. front ++ 32 ∷ cut.0.1) digits.1 in
    subst (λ w. (w.0 < 4096) × (text ≡ octal w.0 ++ 32 ∷ w.1)) mode.2 (digits.0, spelled)

size-said : (text : List ℕ) (word : ℕ × List ℕ) → word.0 < 2 ^ 64 → size_word text ≡ Some word → text ≡ decimal word.0 ++ 32 ∷ word.1
size-said text word few is =
    let cut = then_some (λ cut. option_map (λ size. (size, cut.1)) (number_of cut.0)) (word_of text) word is in
    let size = map_some (λ size. (size, cut.0.1)) (number_of cut.0.0) word cut.2 in
    let fits : size.0 < 2 ^ 64 = subst (λ w. w.0 < 2 ^ 64) (sym size.2) few in
    let digits = decimal-number_of cut.0.0 size.0 fits size.1 in
    let spelled : text ≡ decimal size.0 ++ 32 ∷ cut.0.1 = word-some text cut.0 cut.1 ∙ ap (λ front. front ++ 32 ∷ cut.0.1) digits in
    subst (λ w. text ≡ decimal w.0 ++ 32 ∷ w.1) size.2 spelled

dir-said : (rest : List ℕ) (line : Line) → dir_line rest ≡ Some line → Says Between (codes "d " ++ rest) line
dir-said rest line is =
    let word = then_some (λ word. option_map (λ path. DirLine word.0 path) (path_at word.1)) (mode_word rest) line is in
    let path = map_some (λ path. DirLine word.0.0 path) (path_at word.0.1) line word.2 in
    let mode = mode-said rest word.0 word.1 in
    let at = path_at-some word.0.1 path.0 path.1 in
    let spelled : rest ≡ octal word.0.0 ++ 32 ∷ rooted path.0 = mode.1 ∙ ap (λ r. octal word.0.0 ++ 32 ∷ r) at.1 in
    subst (λ l. Says Between (codes "d " ++ rest) l) path.2 (tt, (mode.0, at.0), ap (λ r. codes "d " ++ r) spelled)

file-said : (rest : List ℕ) (line : Line) → IsNumbered line → file_line rest ≡ Some line → Says Between (codes "f " ++ rest) line
file-said rest line few is =
    let word = then_some (λ word. sized_line word.0 word.1) (mode_word rest) line is in
    let size = then_some (λ size. option_map (λ path. FileLine word.0.0 size.0 path) (path_at size.1)) (size_word word.0.1) line word.2 in
    let path = map_some (λ path. FileLine word.0.0 size.0.0 path) (path_at size.0.1) line size.2 in
    let mode = mode-said rest word.0 word.1 in
    let at = path_at-some size.0.1 path.0 path.1 in
    let fits : size.0.0 < 2 ^ 64 = subst IsNumbered (sym path.2) few in
    let number = size-said word.0.1 size.0 fits size.1 in
    let back : word.0.1 ≡ decimal size.0.0 ++ 32 ∷ rooted path.0 = number ∙ ap (λ r. decimal size.0.0 ++ 32 ∷ r) at.1 in
    let spelled : rest ≡ octal word.0.0 ++ 32 ∷ (decimal size.0.0 ++ 32 ∷ rooted path.0) = mode.1 ∙ ap (λ r. octal word.0.0 ++ 32 ∷ r) back in
    subst (λ l. Says Between (codes "f " ++ rest) l) path.2 (tt, (mode.0, at.0), ap (λ r. codes "f " ++ r) spelled)

-- the first word that is there decides
when-some : (o : Option (List ℕ)) (said : List ℕ → Option Line) (other : Option Line) (line : Line) → when o said other ≡ Some line
    → ((rest : List ℕ) × (o ≡ Some rest) × (said rest ≡ Some line)) ⊎ (other ≡ Some line)
when-some None said other line is = inr is
when-some (Some rest) said other line is = inl (rest, refl, is)

entry-said : (text : List ℕ) (line : Line) → IsNumbered line → entry_line text ≡ Some line → Says Between text line
entry-said text line few is =
    elim (when-some (behind (codes "d ") text) dir_line _ line is) [
      | inl d ↦ subst (λ t. Says Between t line) (sym (behind-some (codes "d ") text d.0 d.1)) (dir-said d.0 line d.2)
      | inr no_d ↦ elim (when-some (behind (codes "l ") text) (λ rest. option_map LinkLine (path_at rest)) _ line no_d) [
        | inl l ↦
            let path = map_some LinkLine (path_at l.0) line l.2 in
            let at = path_at-some l.0 path.0 path.1 in
            subst (λ t. Says Between t line) (sym (behind-some (codes "l ") text l.0 l.1))
            (subst (λ m. Says Between (codes "l " ++ l.0) m) path.2 (tt, at.0, ap (λ r. codes "l " ++ r) at.1))
        | inr no_l ↦ elim (when-some (behind (codes "f ") text) file_line _ line no_l) [
          | inl f ↦ subst (λ t. Says Between t line) (sym (behind-some (codes "f ") text f.0 f.1)) (file-said f.0 line few f.2)
          | inr no_f ↦ elim (when-some (behind (codes "h ") text) (λ rest. option_map SameLine (path_at rest)) _ line no_f) [
            | inl h ↦
                let path = map_some SameLine (path_at h.0) line h.2 in
                let at = path_at-some h.0 path.0 path.1 in
                subst (λ t. Says Between t line) (sym (behind-some (codes "h ") text h.0 h.1))
                (subst (λ m. Says Between (codes "h " ++ h.0) m) path.2 (tt, at.0, ap (λ r. codes "h " ++ r) at.1))
            | inr no_h ↦ elim (when-some (behind (codes "end ") text) (λ rest. option_map EndLine (number_of rest)) None line no_h) [
              | inl e ↦
                  let count = map_some EndLine (number_of e.0) line e.2 in
                  let fits : count.0 < 2 ^ 64 = subst IsNumbered (sym count.2) few in
                  let number = decimal-number_of e.0 count.0 fits count.1 in
                  subst (λ t. Says Between t line) (sym (behind-some (codes "end ") text e.0 e.1))
                  (subst (λ m. Says Between (codes "end " ++ e.0) m) count.2 (tt, tt, ap (λ r. codes "end " ++ r) number))
              | inr none ↦ cc none
            ]
          ]
        ]
      ]
    ]

text-said : (place : Place) (text : List ℕ) (line : Line) → ((t : List ℕ) → MayStand place (TextLine t)) → text_line text ≡ Some line → Says place text line
text-said place text line may is =
    let said = map_some TextLine (behind (codes "> ") text) line is in
    subst (λ l. Says place text l) said.2 (may said.0, tt, behind-some (codes "> ") text said.0 said.1)

-- a text is no line but the one that it spells
pub line-said : (place : Place) (text : List ℕ) (line : Line) → IsNumbered line → line_in place text ≡ Some line → Says place text line
line-said AtHead text line few is =
    let passes = passed (is_text text (codes "rootfs 1")) HeadLine line is in
    subst (λ l. Says AtHead text l) passes.1 (tt, tt, (bytes_decides text (codes "rootfs 1")).0 passes.0)
line-said Between text line few is = entry-said text line few is
line-said (InLink path) text line few is = text-said (InLink path) text line (λ t. tt) is
line-said (InSame path) text line few is = text-said (InSame path) text line (λ t. tt) is
line-said (InFile path mode size bytes) text line few is =
    let digits = then_some (λ rest. option_map BytesLine (bytes_of rest)) (behind (codes "= ") text) line is in
    let said = map_some BytesLine (bytes_of digits.0) line digits.2 in
    let spelled = encode-bytes_of digits.0 said.0 said.1 in
    subst (λ l. Says (InFile path mode size bytes) text l) said.2 (tt, spelled.0, behind-some (codes "= ") text digits.0 digits.1 ∙ ap (λ r. codes "= " ++ r) spelled.1)
line-said Ended text line few is = cc
