-- Steps of the code's loops, over plain variables.
use Rattle.std.proofs.Common.{◌≡◌, ◌≢◌, ℕ, zero, suc, ◌-◌, ◌<◌, List, [], ◌∷◌, ◌++◌, length, get_or, drop, map, Ok, Err, refl, ap, sym, ◌∙◌, arith}
use Rattle.std.proofs.Math.Seq.{drop-cons}
use Rattle.mk_expand.specs.declared.bracket.Bracket.{Bracket}
use Rattle.mk_expand.specs.declared.scope.Scope.{Scope}
use Rattle.mk_expand.specs.declared.fault.ExpandFault.{ExpandFault}
use Rattle.mk_expand.specs.declared.function.Function.{Function}
use Rattle.mk_expand.specs.Words.{words}
use Rattle.mk_expand.specs.Lists.{applied}
use Rattle.mk_expand.specs.Call.{Inside, inside_of, refusal}
use Rattle.mk_expand.specs.Value.{chosen}
use Rattle.mk_expand.specs.Piece.{Piece, piece_of, piece_len}
use Rattle.mk_expand.specs.Meaning.{Environment, with_local}
use Rattle.mk_expand.specs.Draft.{State, ◌>>=◌, pay, put, put_apart}
use Rattle.mk_expand.specs.Pass.{Expansion, walk, piece_run, inside_run, text_run, apart, named, by_name, unless, one_value, all_values, strict_call, branch, choice_call, each, looped, loop_call, called}
use Rattle.mk_expand.proofs.Steps.{bind_ok, bind_err, walk_on, walk_stop}

module _ (vars : Environment) (depth : ℕ) (scope : Scope) where
  pub text_on : (rest tail behind : List ℕ) (b : ℕ) (p : Piece) (s t : State) → rest ≡ b ∷ tail → p ≡ piece_of b tail → behind ≡ drop (piece_len b tail) tail →
      piece_run (inside_run vars depth scope) p s ≡ Ok t → text_run vars depth scope rest s ≡ text_run vars depth scope behind t
  text_on rest tail behind b p s t cut is past run =
      ap (λ r. walk (inside_run vars depth scope) 0 r s) cut
      ∙ (walk_on (inside_run vars depth scope) b tail (drop (piece_len b tail) tail) s t refl (ap (λ p. piece_run (inside_run vars depth scope) p s) (sym is) ∙ run)
      ∙ ap (λ r. walk (inside_run vars depth scope) 0 r t) (sym past))

  pub text_stop : (rest tail : List ℕ) (b : ℕ) (p : Piece) (s : State) (f : ExpandFault) → rest ≡ b ∷ tail → p ≡ piece_of b tail →
      piece_run (inside_run vars depth scope) p s ≡ Err f → text_run vars depth scope rest s ≡ Err f
  text_stop rest tail b p s f cut is run =
      ap (λ r. walk (inside_run vars depth scope) 0 r s) cut
      ∙ walk_stop (inside_run vars depth scope) b tail s f (ap (λ p. piece_run (inside_run vars depth scope) p s) (sym is) ∙ run)

  -- the inside of a reference, where one more may stand in another
  pub inside_on : (kind : Bracket) (text : List ℕ) (inside : Inside) (s : State) → depth ≢ 0 → inside ≡ inside_of kind text →
      inside_run vars depth scope kind text s ≡ called vars (text_run vars (depth - 1)) scope inside text s
  inside_on kind text inside s apart is = by depth apart
    where
      by : (depth : ℕ) → depth ≢ 0 → inside_run vars depth scope kind text s ≡ called vars (text_run vars (depth - 1)) scope inside text s
      by zero apart = absurd (apart refl)
      by (suc depth) apart =
          ap (λ inside. called vars (text_run vars depth) scope inside text s) (sym is)
          ∙ ap (λ depth. called vars (text_run vars depth) scope inside text s) (let e : depth ≡ suc depth - 1 = omega arith in e)

module _ (vars : Environment) (expand : Expansion) (scope : Scope) where
  pub apart_on : (text : List ℕ) (s t : State) → expand scope text ([], s.1) ≡ Ok t → apart vars expand scope text s ≡ Ok (t.0, (s.0, t.1))
  apart_on text s t e = bind_ok (λ t. Ok (t.0, (s.0, t.1))) e

  pub apart_stop : (text : List ℕ) (s : State) (f : ExpandFault) → expand scope text ([], s.1) ≡ Err f → apart vars expand scope text s ≡ Err f
  apart_stop text s f e = bind_err (λ t. Ok (t.0, (s.0, t.1))) e

  pub by_name_on : (text name : List ℕ) (s t u : State) → pay s ≡ Ok t → apart vars expand scope text t ≡ Ok (name, u) → by_name vars expand scope text s ≡ named vars expand scope name u
  by_name_on text name s t u p a =
      bind_ok (λ t. apart vars expand scope text t >>= λ n. named vars expand scope n.0 n.1) p ∙ bind_ok (λ n. named vars expand scope n.0 n.1) a

  pub by_name_unpaid : (text : List ℕ) (s : State) (f : ExpandFault) → pay s ≡ Err f → by_name vars expand scope text s ≡ Err f
  by_name_unpaid text s f p = bind_err (λ t. apart vars expand scope text t >>= λ n. named vars expand scope n.0 n.1) p

  pub by_name_stop : (text : List ℕ) (s t : State) (f : ExpandFault) → pay s ≡ Ok t → apart vars expand scope text t ≡ Err f → by_name vars expand scope text s ≡ Err f
  by_name_stop text s t f p a =
      bind_ok (λ t. apart vars expand scope text t >>= λ n. named vars expand scope n.0 n.1) p ∙ bind_err (λ n. named vars expand scope n.0 n.1) a

  pub strict_on : (function : Function) (args values : List (List ℕ)) (s t u : State) → pay s ≡ Ok t → all_values vars expand scope function [] args t ≡ Ok (values, u) →
      strict_call vars expand scope function args s ≡ put (applied function values) u
  strict_on function args values s t u p a =
      bind_ok (λ t. all_values vars expand scope function [] args t >>= λ v. put (applied function v.0) v.1) p ∙ bind_ok (λ v. put (applied function v.0) v.1) a

  pub strict_unpaid : (function : Function) (args : List (List ℕ)) (s : State) (f : ExpandFault) → pay s ≡ Err f → strict_call vars expand scope function args s ≡ Err f
  strict_unpaid function args s f p = bind_err (λ t. all_values vars expand scope function [] args t >>= λ v. put (applied function v.0) v.1) p

  pub strict_stop : (function : Function) (args : List (List ℕ)) (s t : State) (f : ExpandFault) → pay s ≡ Ok t → all_values vars expand scope function [] args t ≡ Err f →
      strict_call vars expand scope function args s ≡ Err f
  strict_stop function args s t f p a =
      bind_ok (λ t. all_values vars expand scope function [] args t >>= λ v. put (applied function v.0) v.1) p ∙ bind_err (λ v. put (applied function v.0) v.1) a

  pub branch_on : (text : List ℕ) (s t : State) → expand scope text ([], s.1) ≡ Ok t → branch vars expand scope text s ≡ put_apart s t
  branch_on text s t e = bind_ok (put_apart s) e

  pub branch_stop : (text : List ℕ) (s : State) (f : ExpandFault) → expand scope text ([], s.1) ≡ Err f → branch vars expand scope text s ≡ Err f
  branch_stop text s f e = bind_err (put_apart s) e

  pub choice_on : (test one other value : List ℕ) (s t u : State) → pay s ≡ Ok t → apart vars expand scope test t ≡ Ok (value, u) →
      choice_call vars expand scope test one other s ≡ branch vars expand scope (chosen value one other) u
  choice_on test one other value s t u p a =
      bind_ok (λ t. apart vars expand scope test t >>= λ v. branch vars expand scope (chosen v.0 one other) v.1) p ∙ bind_ok (λ v. branch vars expand scope (chosen v.0 one other) v.1) a

  pub choice_unpaid : (test one other : List ℕ) (s : State) (f : ExpandFault) → pay s ≡ Err f → choice_call vars expand scope test one other s ≡ Err f
  choice_unpaid test one other s f p = bind_err (λ t. apart vars expand scope test t >>= λ v. branch vars expand scope (chosen v.0 one other) v.1) p

  pub choice_stop : (test one other : List ℕ) (s t : State) (f : ExpandFault) → pay s ≡ Ok t → apart vars expand scope test t ≡ Err f → choice_call vars expand scope test one other s ≡ Err f
  choice_stop test one other s t f p a =
      bind_ok (λ t. apart vars expand scope test t >>= λ v. branch vars expand scope (chosen v.0 one other) v.1) p ∙ bind_err (λ v. branch vars expand scope (chosen v.0 one other) v.1) a

  pub looped_on : (name body items : List ℕ) (s t : State) → each vars expand scope name body [] (words items) ([], s.1) ≡ Ok t → looped vars expand scope name body items s ≡ put_apart s t
  looped_on name body items s t e = bind_ok (put_apart s) e

  pub looped_stop : (name body items : List ℕ) (s : State) (f : ExpandFault) → each vars expand scope name body [] (words items) ([], s.1) ≡ Err f → looped vars expand scope name body items s ≡ Err f
  looped_stop name body items s f e = bind_err (put_apart s) e

  pub loop_on : (var list body name items : List ℕ) (s t u v : State) → pay s ≡ Ok t → apart vars expand scope var t ≡ Ok (name, u) → apart vars expand scope list u ≡ Ok (items, v) →
      loop_call vars expand scope var list body s ≡ looped vars expand scope name body items v
  loop_on var list body name items s t u v p a b =
      bind_ok (λ t. apart vars expand scope var t >>= λ n. apart vars expand scope list n.1 >>= λ i. looped vars expand scope n.0 body i.0 i.1) p
      ∙ (bind_ok (λ n. apart vars expand scope list n.1 >>= λ i. looped vars expand scope n.0 body i.0 i.1) a ∙ bind_ok (λ i. looped vars expand scope name body i.0 i.1) b)

  pub loop_unpaid : (var list body : List ℕ) (s : State) (f : ExpandFault) → pay s ≡ Err f → loop_call vars expand scope var list body s ≡ Err f
  loop_unpaid var list body s f p =
      bind_err (λ t. apart vars expand scope var t >>= λ n. apart vars expand scope list n.1 >>= λ i. looped vars expand scope n.0 body i.0 i.1) p

  pub loop_stop : (var list body : List ℕ) (s t : State) (f : ExpandFault) → pay s ≡ Ok t → apart vars expand scope var t ≡ Err f → loop_call vars expand scope var list body s ≡ Err f
  loop_stop var list body s t f p a =
      bind_ok (λ t. apart vars expand scope var t >>= λ n. apart vars expand scope list n.1 >>= λ i. looped vars expand scope n.0 body i.0 i.1) p
      ∙ bind_err (λ n. apart vars expand scope list n.1 >>= λ i. looped vars expand scope n.0 body i.0 i.1) a

  pub list_stop : (var list body name : List ℕ) (s t u : State) (f : ExpandFault) → pay s ≡ Ok t → apart vars expand scope var t ≡ Ok (name, u) → apart vars expand scope list u ≡ Err f →
      loop_call vars expand scope var list body s ≡ Err f
  list_stop var list body name s t u f p a b =
      bind_ok (λ t. apart vars expand scope var t >>= λ n. apart vars expand scope list n.1 >>= λ i. looped vars expand scope n.0 body i.0 i.1) p
      ∙ (bind_ok (λ n. apart vars expand scope list n.1 >>= λ i. looped vars expand scope n.0 body i.0 i.1) a ∙ bind_err (λ i. looped vars expand scope name body i.0 i.1) b)

  pub one_on : (function : Function) (behind : ℕ) (known : List (List ℕ)) (text value : List ℕ) (s t : State) → apart vars expand scope text s ≡ Ok (value, t) →
      one_value vars expand scope function behind known text s ≡ unless vars expand scope (refusal function (length known) value behind) (known ++ value ∷ []) t
  one_on function behind known text value s t e = bind_ok (λ v. unless vars expand scope (refusal function (length known) v.0 behind) (known ++ v.0 ∷ []) v.1) e

  pub one_stop : (function : Function) (behind : ℕ) (known : List (List ℕ)) (text : List ℕ) (s : State) (f : ExpandFault) → apart vars expand scope text s ≡ Err f →
      one_value vars expand scope function behind known text s ≡ Err f
  one_stop function behind known text s f e = bind_err (λ v. unless vars expand scope (refusal function (length known) v.0 behind) (known ++ v.0 ∷ []) v.1) e

  pub values_on : (function : Function) (known values args : List (List ℕ)) (text : List ℕ) (s t : State) → one_value vars expand scope function (length args) known text s ≡ Ok (values, t) →
      all_values vars expand scope function known (text ∷ args) s ≡ all_values vars expand scope function values args t
  values_on function known values args text s t e = bind_ok (λ v. all_values vars expand scope function v.0 args v.1) e

  pub values_stop : (function : Function) (known args : List (List ℕ)) (text : List ℕ) (s : State) (f : ExpandFault) → one_value vars expand scope function (length args) known text s ≡ Err f →
      all_values vars expand scope function known (text ∷ args) s ≡ Err f
  values_stop function known args text s f e = bind_err (λ v. all_values vars expand scope function v.0 args v.1) e

  pub each_on : (name body gap word : List ℕ) (others : List (List ℕ)) (s t : State) → expand (with_local scope name word) body (s.0 ++ gap, s.1) ≡ Ok t →
      each vars expand scope name body gap (word ∷ others) s ≡ each vars expand scope name body (32 ∷ []) others t
  each_on name body gap word others s t e = bind_ok (each vars expand scope name body (32 ∷ []) others) e

  pub each_stop : (name body gap word : List ℕ) (others : List (List ℕ)) (s : State) (f : ExpandFault) → expand (with_local scope name word) body (s.0 ++ gap, s.1) ≡ Err f →
      each vars expand scope name body gap (word ∷ others) s ≡ Err f
  each_stop name body gap word others s f e = bind_err (each vars expand scope name body (32 ∷ []) others) e

  -- a word of a list whose text fails, after a gap that is put
  pub each_stop_at : {X : Type 0} (shown : X → List ℕ) (name body gap : List ℕ) (words : List X) (place : ℕ) (word : X) (s paid : State) (f : ExpandFault) → place < length words →
      paid ≡ (s.0 ++ gap, s.1) → expand (with_local scope name (shown (get_or words place word))) body paid ≡ Err f → each vars expand scope name body gap (map shown (drop place words)) s ≡ Err f
  each_stop_at shown name body gap words place word s paid f low is fails =
      ap (λ words. each vars expand scope name body gap (map shown words) s) (drop-cons words place word low)
      ∙ each_stop name body gap (shown (get_or words place word)) (map shown (drop (suc place) words)) s f (ap (expand (with_local scope name (shown (get_or words place word))) body) (sym is) ∙ fails)

-- what each function of the expansion takes of these
pub ruleset texts = (text_on, text_stop)

pub ruleset apart_steps = (apart_on, apart_stop)

pub ruleset name_steps = (by_name_on, by_name_unpaid, by_name_stop)

pub ruleset strict_steps = (strict_on, strict_unpaid, strict_stop)

pub ruleset branch_steps = (branch_on, branch_stop)

pub ruleset choice_steps = (choice_on, choice_unpaid, choice_stop)

pub ruleset looped_steps = (looped_on, looped_stop)

pub ruleset loop_steps = (loop_on, loop_unpaid, loop_stop, list_stop)

pub ruleset one_steps = (one_on, one_stop)

pub ruleset values_steps = (values_on, values_stop)

pub ruleset each_steps = (each_on, each_stop)
