-- The text of an image, as it grows.
use Rattle.std.proofs.Common.{ℕ, ◌≡◌, ◌+◌, ◌-◌, ◌/◌, ◌<◌, ◌≤◌, min, List, [], ◌∷◌, ◌++◌, map, length, take, drop, refl, sym, ap, ◌∙◌, append_assoc, append-nil, length-drop, take_all, add-one, arith}
use Rattle.std.specs.Prelude.{flat_map, codes}
use Rattle.std.specs.Fmt.{decimal}
use Rattle.std.proofs.lemmas.List.{take_min, drop_min}
use Rattle.br_path.specs.Path.{Names, rooted_text}
use Rattle.root_image.specs.Lines.{Line, BytesLine, EndLine, Entries, rooted, line_text, entry_lines, all_lines, lines_text, image_text, pieces, pieces_from}

-- names with a slash before each are a path, if there is one
pub rooted_text-is : (names : Names) → 0 < length names → rooted_text names ≡ rooted names
rooted_text-is [] some = absurd (omega arith)
rooted_text-is (name ∷ []) some = ap (λ n. 47 ∷ n) (append-nil name)
rooted_text-is (name ∷ next ∷ names) some = ap (λ rest. 47 ∷ (name ++ rest)) (rooted_text-is (next ∷ names) (omega arith))

pub lines_text-append : (one two : List Line) → lines_text (one ++ two) ≡ lines_text one ++ lines_text two
lines_text-append [] two = refl
lines_text-append (line ∷ one) two = ap (λ t. (line_text line ++ 10 ∷ []) ++ t) (lines_text-append one two) ∙ sym (append_assoc (line_text line ++ 10 ∷ []) (lines_text one) (lines_text two))

all_lines-text : (entries : Entries) → lines_text (all_lines entries) ≡ flat_map (λ entry. lines_text (entry_lines entry.0 entry.1)) entries
all_lines-text [] = refl
all_lines-text (entry ∷ entries) = lines_text-append (entry_lines entry.0 entry.1) (all_lines entries) ∙ ap (λ t. lines_text (entry_lines entry.0 entry.1) ++ t) (all_lines-text entries)

-- an image is its first line, the lines of its entries, and the last line
pub image_text-is : (root : Entries) → image_text root ≡ codes "rootfs 1\n" ++ (flat_map (λ entry. lines_text (entry_lines entry.0 entry.1)) root ++ ((codes "end " ++ decimal (length root)) ++ 10 ∷ []))
image_text-is root =
    ap (λ t. codes "rootfs 1\n" ++ t)
    (lines_text-append (all_lines root) (EndLine (length root) ∷ [])
    ∙ ap (λ t. t ++ lines_text (EndLine (length root) ∷ [])) (all_lines-text root)
    ∙ ap (λ t. flat_map (λ entry. lines_text (entry_lines entry.0 entry.1)) root ++ t) (append-nil ((codes "end " ++ decimal (length root)) ++ 10 ∷ [])))

-- the first piece of what is left
pieces-next : (bytes : List ℕ) (n : ℕ) → 0 < length bytes → n ≡ min 32 (length bytes) → pieces bytes ≡ take n bytes ∷ pieces (drop n bytes)
pieces-next bytes n some least =
    let count = (length bytes - 1) / 32 in
    let is : (length bytes + 31) / 32 ≡ count + 1 = omega arith in
    let rest : (length (drop 32 bytes) + 31) / 32 ≡ count = omega (arith, length-drop 32 bytes) in
    let front : take 32 bytes ≡ take n bytes = sym (take_min 32 bytes) ∙ ap (λ m. take m bytes) (sym least) in
    let back : drop 32 bytes ≡ drop n bytes = sym (drop_min 32 bytes) ∙ ap (λ m. drop m bytes) (sym least) in
    ap (λ m. pieces_from m bytes) (is ∙ add-one count)
    ∙ ap (λ m. take 32 bytes ∷ pieces_from m (drop 32 bytes)) (sym rest)
    ∙ (λ i. front i ∷ pieces (back i))

-- one piece more is written
pub pieces-turn : (text new rest piece more all : List ℕ) (n : ℕ) → 0 < length rest → n ≡ min 32 (length rest) → piece ≡ take n rest → more ≡ drop n rest → new ≡ text ++ lines_text (BytesLine piece ∷ [])
    → text ++ lines_text (map BytesLine (pieces rest)) ≡ all → new ++ lines_text (map BytesLine (pieces more)) ≡ all
pieces-turn text new rest piece more all n some least front back pushed so_far =
    ap (λ t. t ++ lines_text (map BytesLine (pieces more))) pushed
    ∙ append_assoc text (lines_text (BytesLine piece ∷ [])) (lines_text (map BytesLine (pieces more)))
    ∙ ap (λ t. text ++ t) (sym (lines_text-append (BytesLine piece ∷ []) (map BytesLine (pieces more))))
    ∙ (λ i. text ++ lines_text (map BytesLine (front i ∷ pieces (back i))))
    ∙ ap (λ ps. text ++ lines_text (map BytesLine ps)) (sym (pieces-next rest n some least))
    ∙ so_far

-- all names are written
pub names-whole : (text old : List ℕ) (names : Names) (index : ℕ) → text ≡ old ++ rooted_text (take index names) → length names ≤ index → 0 < length names → text ≡ old ++ rooted names
names-whole text old names index is all some = is ∙ ap (λ n. old ++ rooted_text n) (take_all index names all) ∙ ap (λ t. old ++ t) (rooted_text-is names some)

-- all entries are written, and the last line
pub image-whole : (text last counted new : List ℕ) (root : Entries) (index : ℕ) → text ≡ codes "rootfs 1\n" ++ flat_map (λ entry. lines_text (entry_lines entry.0 entry.1)) (take index root) → length root ≤ index
    → last ≡ text ++ codes "end " → counted ≡ last ++ decimal (length root) → new ≡ counted ++ 10 ∷ [] → new ≡ image_text root
image-whole text last counted new root index is all ends count more =
    let entries = flat_map (λ entry. lines_text (entry_lines entry.0 entry.1)) root in
    more ∙ ap (λ t. t ++ 10 ∷ []) (count ∙ ap (λ t. t ++ decimal (length root)) ends)
    ∙ ap (λ t. ((t ++ codes "end ") ++ decimal (length root)) ++ 10 ∷ []) (is ∙ ap (λ e. codes "rootfs 1\n" ++ flat_map (λ entry. lines_text (entry_lines entry.0 entry.1)) e) (take_all index root all))
    ∙ ap (λ t. t ++ 10 ∷ []) (append_assoc (codes "rootfs 1\n" ++ entries) (codes "end ") (decimal (length root)))
    ∙ append_assoc (codes "rootfs 1\n" ++ entries) (codes "end " ++ decimal (length root)) (10 ∷ [])
    ∙ append_assoc (codes "rootfs 1\n") entries ((codes "end " ++ decimal (length root)) ++ 10 ∷ [])
    ∙ sym (image_text-is root)
