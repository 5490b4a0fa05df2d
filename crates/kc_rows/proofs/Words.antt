-- Which words the first words of lines are.
use Rattle.std.proofs.Common.{◌≡◌, ◌⊎◌, ⊎_elim, inl, inr, true, List, [], ◌∷◌, ℕ, IfSome, codes, ◌||◌}
use Rattle.std.specs.Cmp.Lexicographic.{bytes_decides}
use Rattle.std.proofs.lemmas.Bool.{or_cases}
use Rattle.br_path.specs.Text.{is_text}
use Rattle.kc_rows.specs.Keyword.{keyword, block_word, type_word, attribute_word}
use Rattle.kc_rows.specs.declared.keyword.Keyword.{Keyword}
use Rattle.kc_rows.specs.declared.keyword.Keyword.TheVariants.{MainMenu, Source, Menu, EndMenu, If, EndIf, Choice, EndChoice, Comment, Config, Bool as BoolWord, Text, Int, Prompt, DefBool, Default, Depends, Select, Help, DashedHelp}
use Rattle.kc_rows.proofs.Found.{found_first, found_or}

-- the word that stands for a line's kind
abbrev pub IsWordOf : Keyword → List ℕ → Type 0
IsWordOf MainMenu w = w ≡ codes "mainmenu"
IsWordOf Source w = w ≡ codes "source"
IsWordOf Menu w = w ≡ codes "menu"
IsWordOf EndMenu w = w ≡ codes "endmenu"
IsWordOf If w = w ≡ codes "if"
IsWordOf EndIf w = w ≡ codes "endif"
IsWordOf Choice w = w ≡ codes "choice"
IsWordOf EndChoice w = w ≡ codes "endchoice"
IsWordOf Comment w = w ≡ codes "comment"
IsWordOf Config w = (w ≡ codes "config") ⊎ (w ≡ codes "menuconfig")
IsWordOf BoolWord w = w ≡ codes "bool"
IsWordOf Text w = w ≡ codes "string"
IsWordOf Int w = w ≡ codes "int"
IsWordOf Prompt w = w ≡ codes "prompt"
IsWordOf DefBool w = w ≡ codes "def_bool"
IsWordOf Default w = w ≡ codes "default"
IsWordOf Depends w = w ≡ codes "depends"
IsWordOf Select w = w ≡ codes "select"
IsWordOf Help w = w ≡ codes "help"
IsWordOf DashedHelp w = w ≡ codes "---help---"

pub same : (w v : List ℕ) → is_text w v ≡ true → w ≡ v
same w v e = (bytes_decides w v).0 e

either : (w v u : List ℕ) → (is_text w v || is_text w u) ≡ true → (w ≡ v) ⊎ (w ≡ u)
either w v u e = ⊎_elim (λ a. inl (same w v a)) (λ b. inr (same w u b)) (or_cases (is_text w v) (is_text w u) e)

block_found : (w : List ℕ) → IfSome (block_word w) (λ k. IsWordOf k w)
unfolding block_word
block_found w = found_first (λ k. IsWordOf k w) (
    (is_text w (codes "config") || is_text w (codes "menuconfig"), Config)
    ∷ (is_text w (codes "source"), Source)
    ∷ (is_text w (codes "if"), If)
    ∷ (is_text w (codes "endif"), EndIf)
    ∷ (is_text w (codes "menu"), Menu)
    ∷ (is_text w (codes "endmenu"), EndMenu)
    ∷ (is_text w (codes "choice"), Choice)
    ∷ (is_text w (codes "endchoice"), EndChoice)
    ∷ (is_text w (codes "comment"), Comment)
    ∷ (is_text w (codes "mainmenu"), MainMenu) ∷ [])
    (either w _ _, (same w _, (same w _, (same w _, (same w _, (same w _, (same w _, (same w _, (same w _, (same w _, tt))))))))))

type_found : (w : List ℕ) → IfSome (type_word w) (λ k. IsWordOf k w)
unfolding type_word
type_found w = found_first (λ k. IsWordOf k w) (
    (is_text w (codes "bool"), BoolWord)
    ∷ (is_text w (codes "string"), Text)
    ∷ (is_text w (codes "int"), Int) ∷ [])
    (same w _, (same w _, (same w _, tt)))

attribute_found : (w : List ℕ) → IfSome (attribute_word w) (λ k. IsWordOf k w)
unfolding attribute_word
attribute_found w = found_first (λ k. IsWordOf k w) (
    (is_text w (codes "depends"), Depends)
    ∷ (is_text w (codes "select"), Select)
    ∷ (is_text w (codes "default"), Default)
    ∷ (is_text w (codes "help"), Help)
    ∷ (is_text w (codes "---help---"), DashedHelp)
    ∷ (is_text w (codes "prompt"), Prompt)
    ∷ (is_text w (codes "def_bool"), DefBool) ∷ [])
    (same w _, (same w _, (same w _, (same w _, (same w _, (same w _, (same w _, tt)))))))

pub keyword_found : (w : List ℕ) → IfSome (keyword w) (λ k. IsWordOf k w)
unfolding keyword
keyword_found w =
    found_or (block_word w) _ (λ k. IsWordOf k w) (block_found w)
    (found_or (type_word w) (attribute_word w) (λ k. IsWordOf k w) (type_found w) (attribute_found w))
