-- Arguments, from one comma that divides to the next.
use Rattle.std.proofs.Common.{◌≡◌, ℕ, suc, ◌+◌, ◌-◌, Bool, true, false, cond, ◌&&◌, eqb, List, [], ◌∷◌, ◌++◌, length, take, drop, Option, Some, None, refl, ap, sym, ◌∙◌, subst, arith, append_assoc, append-nil, map, length-append}
use Rattle.std.proofs.lemmas.List.{drop-drop, map-append}
use Rattle.mk_expand.specs.declared.bracket.Bracket.{Bracket}
use Rattle.mk_expand.specs.Bracket.{opening, closing, comma_of}
use Rattle.mk_expand.specs.Table.{may_divide}
use Rattle.mk_expand.specs.Call.{divided}

module _ (kind : Bracket) (most : Option ℕ) (count : ℕ) where
  -- where no more comma may divide
  pub divided_last : (text begun : List ℕ) (level : ℕ) → may_divide most count ≡ false → divided kind most count level begun text ≡ (begun ++ text) ∷ []
  divided_last [] begun level e = ap (λ t. t ∷ []) (sym (append-nil begun))
  divided_last (b ∷ text) begun level e =
      let up = divided_last text (begun ++ b ∷ []) (level + 1) e in
      let down = divided_last text (begun ++ b ∷ []) (level - 1) e in
      let same = divided_last text (begun ++ b ∷ []) level e in
      let join : (begun ++ b ∷ []) ++ text ≡ begun ++ b ∷ text = append_assoc begun (b ∷ []) text in
      by (begun ∷ divided kind most (count + 1) 0 [] text) (eqb b (opening kind)) (eqb b (closing kind)) (eqb b 44) (eqb level 0) (may_divide most count) e
      (up ∙ ap (λ t. t ∷ []) join) (down ∙ ap (λ t. t ∷ []) join) (same ∙ ap (λ t. t ∷ []) join)
    where
      by : {X Y Z S : List (List ℕ)} (R : List (List ℕ)) (p q r z m : Bool) → m ≡ false → X ≡ S → Y ≡ S → Z ≡ S → cond p X (cond q Y (cond (r && (z && m)) R Z)) ≡ S
      by R true q r z m e x y w = x
      by R false true r z m e x y w = y
      by R false false false z m e x y w = w
      by R false false true false m e x y w = w
      by {Z = Z} R false false true true m e x y w = ap (λ m. cond m R Z) e ∙ w

  -- where none does
  pub divided_none : (text begun : List ℕ) (level place : ℕ) → comma_of kind level place text ≡ None → divided kind most count level begun text ≡ (begun ++ text) ∷ []
  divided_none [] begun level place e = ap (λ t. t ∷ []) (sym (append-nil begun))
  divided_none (b ∷ text) begun level place e =
      let join : ((begun ++ b ∷ []) ++ text) ∷ [] ≡ (begun ++ b ∷ text) ∷ [] = ap (λ t. t ∷ []) (append_assoc begun (b ∷ []) text) in
      by (begun ∷ divided kind most (count + 1) 0 [] text) (eqb b (opening kind)) (eqb b (closing kind)) (eqb b 44) (eqb level 0) (may_divide most count) place e
      (λ e. divided_none text (begun ++ b ∷ []) (level + 1) (place + 1) e ∙ join) (λ e. divided_none text (begun ++ b ∷ []) (level - 1) (place + 1) e ∙ join)
      (λ e. divided_none text (begun ++ b ∷ []) level (place + 1) e ∙ join)
    where
      by : {A B C : Option ℕ} {X Y Z S : List (List ℕ)} (R : List (List ℕ)) (p q r z m : Bool) (place : ℕ) → cond p A (cond q B (cond (r && z) (Some place) C)) ≡ None →
          (A ≡ None → X ≡ S) → (B ≡ None → Y ≡ S) → (C ≡ None → Z ≡ S) → cond p X (cond q Y (cond (r && (z && m)) R Z)) ≡ S
      by R true q r z m place e x y w = x e
      by R false true r z m place e x y w = y e
      by R false false false z m place e x y w = w e
      by R false false true false m place e x y w = w e
      by R false false true true m place e x y w = cc

  -- the argument up to the comma at a place, and those after it
  abbrev pub Next : List ℕ → List ℕ → ℕ → ℕ → List (List ℕ) → Type 0
  Next text begun place at all = (n : ℕ) × (at ≡ place + n) × (all ≡ (begun ++ take n text) ∷ divided kind most (count + 1) 0 [] (drop (suc n) text))

  longer : (b : ℕ) (text begun : List ℕ) (place at : ℕ) (all : List (List ℕ)) → Next text (begun ++ b ∷ []) (place + 1) at all → Next (b ∷ text) begun place at all
  longer b text begun place at all (n, e, is) =
      (suc n, (omega arith), is ∙ ap (λ t. t ∷ divided kind most (count + 1) 0 [] (drop (suc n) text)) (append_assoc begun (b ∷ []) (take n text)))

  -- where the next one does
  pub divided_next : (text begun : List ℕ) (level place at : ℕ) → may_divide most count ≡ true → comma_of kind level place text ≡ Some at →
      Next text begun place at (divided kind most count level begun text)
  divided_next [] begun level place at m e = cc
  divided_next (b ∷ text) begun level place at m e =
      by (Next (b ∷ text) begun place at) (eqb b (opening kind)) (eqb b (closing kind)) (eqb b 44) (eqb level 0) (may_divide most count) m e
      (λ e. longer b text begun place at (divided kind most count (level + 1) (begun ++ b ∷ []) text) (divided_next text (begun ++ b ∷ []) (level + 1) (place + 1) at m e))
      (λ e. longer b text begun place at (divided kind most count (level - 1) (begun ++ b ∷ []) text) (divided_next text (begun ++ b ∷ []) (level - 1) (place + 1) at m e))
      (λ e. longer b text begun place at (divided kind most count level (begun ++ b ∷ []) text) (divided_next text (begun ++ b ∷ []) level (place + 1) at m e))
      (λ e. (0, (let f : place ≡ at = e in omega arith), ap (λ t. t ∷ divided kind most (count + 1) 0 [] text) (sym (append-nil begun))))
    where
      by : {A B C : Option ℕ} {X Y Z R : List (List ℕ)} (P : List (List ℕ) → Type 0) (p q r z m : Bool) → m ≡ true → cond p A (cond q B (cond (r && z) (Some place) C)) ≡ Some at →
          (A ≡ Some at → P X) → (B ≡ Some at → P Y) → (C ≡ Some at → P Z) → (place ≡ at → P R) → P (cond p X (cond q Y (cond (r && (z && m)) R Z)))
      by P true q r z m t e x y w hit = x e
      by P false true r z m t e x y w hit = y e
      by P false false false z m t e x y w hit = w e
      by P false false true false m t e x y w hit = w e
      by {Z = Z} {R = R} P false false true true m t e x y w hit = let Q : Bool → Type 0 = λ m. P (cond m R Z) in subst Q (sym t) (hit (cc))

module _ (kind : Bracket) (most : Option ℕ) (count : ℕ) (rest : List ℕ) where
  -- the arguments from one on, where a comma ends it
  pub comma_on : (place : ℕ) → cond (may_divide most count) (comma_of kind 0 0 rest) None ≡ Some place →
      divided kind most count 0 [] rest ≡ take place rest ∷ divided kind most (count + 1) 0 [] (drop 1 (drop place rest))
  comma_on place = by (may_divide most count) refl
    where
      by : (m : Bool) → may_divide most count ≡ m → cond m (comma_of kind 0 0 rest) None ≡ Some place →
          divided kind most count 0 [] rest ≡ take place rest ∷ divided kind most (count + 1) 0 [] (drop 1 (drop place rest))
      by false m e = cc
      by true m e = at (divided_next kind most count rest [] 0 0 place m e)
        where
          at : Next kind most count rest [] 0 place (divided kind most count 0 [] rest) →
              divided kind most count 0 [] rest ≡ take place rest ∷ divided kind most (count + 1) 0 [] (drop 1 (drop place rest))
          at (n, e, is) =
              let same : n ≡ place = omega arith in
              let behind : drop (suc place) rest ≡ drop 1 (drop place rest) = ap (λ n. drop n rest) (let e : suc place ≡ place + 1 = omega arith in e) ∙ sym (drop-drop 1 place rest) in
              is ∙ (ap (λ n. take n rest ∷ divided kind most (count + 1) 0 [] (drop (suc n) rest)) same ∙ ap (λ t. take place rest ∷ divided kind most (count + 1) 0 [] t) behind)

  -- and where none does
  pub comma_stop : cond (may_divide most count) (comma_of kind 0 0 rest) None ≡ None → divided kind most count 0 [] rest ≡ rest ∷ []
  comma_stop = by (may_divide most count) refl
    where
      by : (m : Bool) → may_divide most count ≡ m → cond m (comma_of kind 0 0 rest) None ≡ None → divided kind most count 0 [] rest ≡ rest ∷ []
      by false m e = divided_last kind most count rest [] 0 m
      by true m e = divided_none kind most count rest [] 0 0 e

-- the same after arguments that were found before
module _ {X : Type 0} (shown : X → List ℕ) (kind : Bracket) (most : Option ℕ) (args pushed : List X) (arg : X) (rest : List ℕ) (found : pushed ≡ args ++ arg ∷ []) where
  shown_push : map shown pushed ≡ map shown args ++ shown arg ∷ []
  shown_push = ap (map shown) found ∙ map-append shown args (arg ∷ [])

  pub divide_on : (behind : List ℕ) (place : ℕ) → shown arg ≡ take place rest → behind ≡ drop 1 (drop place rest) →
      cond (may_divide most (length args)) (comma_of kind 0 0 rest) None ≡ Some place →
      map shown args ++ divided kind most (length args) 0 [] rest ≡ map shown pushed ++ divided kind most (length pushed) 0 [] behind
  divide_on behind place is after e =
      let count : length args + 1 ≡ length pushed = sym (length-append args (arg ∷ [])) ∙ ap length (sym found) in
      ap (λ d. map shown args ++ d) (comma_on kind most (length args) rest place e)
      ∙ (sym (append_assoc (map shown args) (take place rest ∷ []) (divided kind most (length args + 1) 0 [] (drop 1 (drop place rest))))
      ∙ (ap (λ t. (map shown args ++ t ∷ []) ++ divided kind most (length args + 1) 0 [] (drop 1 (drop place rest))) (sym is)
      ∙ (ap (λ p. p ++ divided kind most (length args + 1) 0 [] (drop 1 (drop place rest))) (sym shown_push)
      ∙ (ap (λ n. map shown pushed ++ divided kind most n 0 [] (drop 1 (drop place rest))) count ∙ ap (λ t. map shown pushed ++ divided kind most (length pushed) 0 [] t) (sym after)))))

  pub divide_end : shown arg ≡ rest → cond (may_divide most (length args)) (comma_of kind 0 0 rest) None ≡ None →
      map shown args ++ divided kind most (length args) 0 [] rest ≡ map shown pushed
  divide_end is e =
      ap (λ d. map shown args ++ d) (comma_stop kind most (length args) rest e) ∙ (ap (λ t. map shown args ++ t ∷ []) (sym is) ∙ sym shown_push)
