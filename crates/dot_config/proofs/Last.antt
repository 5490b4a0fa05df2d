-- The wishes whose symbol stands in no later one.
use Rattle.std.proofs.Common.{ℕ, ◌≡◌, ◌+◌, ◌<◌, ◌≤◌, Bool, true, false, cond, List, [], ◌∷◌, ◌++◌, reverse, refl, sym, ap, subst, ◌∙◌, ⊎_elim, arith, append_assoc, true≢false}
use Rattle.std.specs.Prelude.{◌||◌, ◌≢◌, not, All, AllPairs}
use Rattle.std.specs.List.{list_any}
use Rattle.std.proofs.lemmas.Bool.{or_parts, cond-true, cond-false, not-true, not-false}
use Rattle.std.proofs.lemmas.List.{append-nil, reverse-append}
use Rattle.std.proofs.lemmas.List.Elements.{All-nil, All-cons, All-head, All-tail, All-weaker}
use Rattle.std.proofs.lemmas.List.Kept.{AllPairs-cons}
use Rattle.br_path.specs.Text.{is_text}
use Rattle.kc_menu.specs.Wishes.{AreWishes}
use Rattle.kc_menu.specs.declared.wishes.Wish.{Wish}
use Rattle.dot_config.specs.declared.line.Said.{Said}
use Rattle.dot_config.specs.declared.line.Said.TheVariants.{Nothing, Asks}
use Rattle.dot_config.specs.Reading.{wish_at, wishes_from, last_wishes}
use Rattle.dot_config.specs.Symbols.{has}
use Rattle.dot_config.proofs.Cuts.{is_text-same}

-- some of the wishes is for the symbol
abbrev pub asks_for : List ℕ → List Wish → Bool
asks_for symbol wishes = list_any (λ wish. is_text wish.symbol symbol) wishes

-- the wishes that are left, those that were looked at from the end, and what is known of these
pub record IsCut (whole left kept : List Wish) (names : List (List ℕ)) : Type 0 where
  pub later : List Wish
  pub cut : whole ≡ left ++ later
  pub last : reverse kept ≡ last_wishes later
  pub named : (symbol : List ℕ) → has symbol names ≡ asks_for symbol later

pub cut_none : (whole : List Wish) → IsCut whole whole [] []
cut_none whole = record { later = []; cut = sym (append-nil whole); last = refl; named = λ symbol. refl }

pub cut_all : (whole kept : List Wish) (names : List (List ℕ)) → IsCut whole [] kept names → reverse kept ≡ last_wishes whole
cut_all whole kept names is = is.last ∙ ap last_wishes (sym is.cut)

-- one more, whose symbol is new
pub cut_new : (whole left more kept : List Wish) (wish : Wish) (symbol : List ℕ) (names added : List (List ℕ)) → IsCut whole left kept names → left ≡ more ++ wish ∷ [] → symbol ≡ wish.symbol → not (has symbol names) ≡ true →
    ((other : List ℕ) → has other added ≡ (is_text symbol other || has other names)) → IsCut whole more (kept ++ wish ∷ []) added
cut_new whole left more kept wish symbol names added is popped same new put = record {
  later = wish ∷ is.later;
  cut = is.cut ∙ ap (λ l. l ++ is.later) popped ∙ append_assoc more (wish ∷ []) is.later;
  last = reverse-append kept (wish ∷ []) ∙ ap (λ l. wish ∷ l) is.last ∙ sym (cond-false (asks_for wish.symbol is.later) (last_wishes is.later) (wish ∷ last_wishes is.later) (sym (is.named wish.symbol) ∙ ap (λ s. has s names) (sym same) ∙ not-true (has symbol names) new));
  named = λ other. put other ∙ ap (λ s. is_text s other || has other names) same ∙ ap (λ b. is_text wish.symbol other || b) (is.named other);
}

-- one more, whose symbol stands in a later one
pub cut_old : (whole left more kept : List Wish) (wish : Wish) (symbol : List ℕ) (names added : List (List ℕ)) → IsCut whole left kept names → left ≡ more ++ wish ∷ [] → symbol ≡ wish.symbol → not (has symbol names) ≡ false →
    ((other : List ℕ) → has other added ≡ (is_text symbol other || has other names)) → IsCut whole more kept added
cut_old whole left more kept wish symbol names added is popped same old put = record {
  later = wish ∷ is.later;
  cut = is.cut ∙ ap (λ l. l ++ is.later) popped ∙ append_assoc more (wish ∷ []) is.later;
  last = is.last ∙ sym (cond-true (asks_for wish.symbol is.later) (last_wishes is.later) (wish ∷ last_wishes is.later) (sym (is.named wish.symbol) ∙ ap (λ s. has s names) (sym same) ∙ not-false (has symbol names) old));
  named = λ other. put other ∙ ap (λ s. is_text s other || has other names) same ∙ ap (λ b. is_text wish.symbol other || b) (is.named other);
}

-- where the first of a list is left out or not
All-choice : (P : Wish → Type 0) (b : Bool) (wish : Wish) (wishes : List Wish) → P wish → All P wishes → All P (cond b wishes (wish ∷ wishes))
All-choice P true wish wishes one all = all
All-choice P false wish wishes one all = All-cons P wish wishes one all

AllPairs-choice : (R : Wish → Wish → Type 0) (b : Bool) (wish : Wish) (wishes : List Wish) → (b ≡ false → All (R wish) wishes) → AllPairs R wishes → AllPairs R (cond b wishes (wish ∷ wishes))
AllPairs-choice R true wish wishes first pairs = pairs
AllPairs-choice R false wish wishes first pairs = AllPairs-cons R wish wishes (first refl) pairs

-- what holds of all wishes holds of the last ones
All-last_wishes : (P : Wish → Type 0) (wishes : List Wish) → All P wishes → All P (last_wishes wishes)
All-last_wishes P [] all = all
All-last_wishes P (wish ∷ later) all =
    All-choice P (asks_for wish.symbol later) wish (last_wishes later) (All-head P wish later all) (All-last_wishes P later (All-tail P wish later all))

-- a symbol that none of them is for
others : (symbol : List ℕ) (wishes : List Wish) → asks_for symbol wishes ≡ false → All (λ wish. symbol ≢ wish.symbol) wishes
others symbol [] none = All-nil (λ wish. symbol ≢ wish.symbol)
others symbol (wish ∷ wishes) none =
    let parts = or_parts (is_text wish.symbol symbol) (asks_for symbol wishes) none in
    All-cons (λ w. symbol ≢ w.symbol) wish wishes
    (λ same. true≢false (sym (is_text-same wish.symbol symbol (sym same)) ∙ parts.0)) (others symbol wishes parts.1)

apart : (wishes : List Wish) → AllPairs (λ first later. first.symbol ≢ later.symbol) (last_wishes wishes)
apart [] = λ i j d below within. absurd (omega arith)
apart (wish ∷ later) =
    AllPairs-choice (λ one other. one.symbol ≢ other.symbol) (asks_for wish.symbol later) wish (last_wishes later)
    (λ none. All-last_wishes (λ other. wish.symbol ≢ other.symbol) later (others wish.symbol later none)) (apart later)

-- wishes on lines after a number
weaker : (number : ℕ) (wishes : List Wish) → All (λ wish. number + 1 ≤ wish.line) wishes → All (λ wish. number ≤ wish.line) wishes
weaker number wishes = All-weaker (λ wish. number + 1 ≤ wish.line) (λ wish. number ≤ wish.line) (λ wish above. omega (arith, above)) wishes

from_on : (number : ℕ) (said : List Said) → All (λ wish. number ≤ wish.line) (wishes_from number said)
from_on number [] = All-nil (λ wish. number ≤ wish.line)
from_on number (Nothing ∷ more) = weaker number (wishes_from (number + 1) more) (from_on (number + 1) more)
from_on number (Asks symbol value ∷ more) =
    All-cons (λ wish. number ≤ wish.line) (record { symbol = symbol; value = value; line = number }) (wishes_from (number + 1) more) (omega arith)
    (weaker number (wishes_from (number + 1) more) (from_on (number + 1) more))

rising : (number : ℕ) (said : List Said) → AllPairs (λ first later. first.line < later.line) (last_wishes (wishes_from number said))
rising number [] = λ i j d below within. absurd (omega arith)
rising number (Nothing ∷ more) = rising (number + 1) more
rising number (Asks symbol value ∷ more) =
    let behind : All (λ wish. number < wish.line) (wishes_from (number + 1) more) =
    All-weaker (λ wish. number + 1 ≤ wish.line) (λ wish. number < wish.line) (λ wish above. omega (arith, above)) (wishes_from (number + 1) more) (from_on (number + 1) more) in
    AllPairs-choice (λ one other. one.line < other.line) (asks_for symbol (wishes_from (number + 1) more)) (record { symbol = symbol; value = value; line = number }) (last_wishes (wishes_from (number + 1) more))
    (λ none. All-last_wishes (λ wish. number < wish.line) (wishes_from (number + 1) more) behind) (rising (number + 1) more)

pub last_are_wishes : (said : List Said) → AreWishes (last_wishes (wishes_from 1 said))
last_are_wishes said = record { rising = rising 1 said; apart = apart (wishes_from 1 said) }
