-- Why lists of turns are no legal histories.
use Rattle.std.proofs.Common.{◌≡◌, ℕ, ◌+◌, ◌<◌, ◌≤◌, List, [], ◌∷◌, ◌++◌, length, take, Bool, true, false, Option, Some, None, sym, ap, ◌∙◌, subst, arith, get_or, set, length-set, append_assoc, append-nil, zero, suc}
use Rattle.std.proofs.lemmas.List.{take_more}
use Rattle.std.proofs.Math.Seq.{take-length}
use Rattle.dep_graph.specs.Needs.{Needs}
use Rattle.ready_yard.specs.declared.turn.Turn.{Turn}
use Rattle.ready_yard.specs.declared.turn.Turn.TheVariants.{Start, End}
use Rattle.ready_yard.specs.declared.checker.Why.{Why}
use Rattle.ready_yard.specs.declared.checker.Why.TheVariants.{NoSuchWorker, WorkerBusy, NoSuchTask, StartedTwice, NeedNotEnded, NotLeast, NotRunning}
use Rattle.ready_yard.specs.declared.checker.Judgement.TheVariants.{Wrong}
use Rattle.ready_yard.specs.History.{started, ended, runs, MayFollow, IsLegalFrom, IsLegal, IsWhole}
use Rattle.ready_yard.specs.Judged.{IsBad, IsJudged, IsPast, turn_at}
use Rattle.ready_yard.proofs.Turns.{true_is_not, not_some, ready_parts, set_is, put_is, runs-push, started_start, ended_start, started_end, ended_end, legal-push, sound_of}

-- a turn that is bad may not follow
pub bad_is : (g : Needs) (n : ℕ) (h : List Turn) (turn : Turn) (why : Why) → IsBad g n h turn why → MayFollow g n h turn → ⊥
bad_is g n h (Start w t) NoSuchWorker bad may = bad (may.0, may.1)
bad_is g n h (Start w t) WorkerBusy bad may = not_some bad.0 (sym may.2 ∙ bad.1)
bad_is g n h (Start w t) NoSuchTask bad may = let lt = (ready_parts g h t may.3.ready).0 in omega (arith, bad, lt)
bad_is g n h (Start w t) StartedTwice bad may = true_is_not (sym bad ∙ (ready_parts g h t may.3.ready).1)
bad_is g n h (Start w t) NeedNotEnded bad may = true_is_not (sym (ready_parts g h t may.3.ready).2 ∙ bad)
bad_is g n h (Start w t) NotLeast bad may = true_is_not (sym bad.1.2 ∙ may.3.least bad.1.0 bad.1.1)
bad_is g n h (Start w t) NotRunning bad may = bad
bad_is g n h (End w t) NotRunning bad may = bad may
bad_is g n h (End w t) NoSuchWorker bad may = bad
bad_is g n h (End w t) WorkerBusy bad may = bad
bad_is g n h (End w t) NoSuchTask bad may = bad
bad_is g n h (End w t) StartedTwice bad may = bad
bad_is g n h (End w t) NeedNotEnded bad may = bad
bad_is g n h (End w t) NotLeast bad may = bad

-- each turn of a legal list may follow those before it
pub legal_at : (g : Needs) (n : ℕ) (past xs : List Turn) (i : ℕ) → IsLegalFrom g n past xs → i < length xs → MayFollow g n (past ++ take i xs) (get_or xs i (End 0 0))
legal_at g n past [] i legal lt = absurd (omega (arith, lt))
legal_at g n past (x ∷ xs) zero legal lt = subst (λ p. MayFollow g n p x) (sym (append-nil past)) legal.0
legal_at g n past (x ∷ xs) (suc i) legal lt =
    subst (λ p. MayFollow g n p (get_or xs i (End 0 0))) (append_assoc past (x ∷ []) (take i xs)) (legal_at g n (past ++ x ∷ []) xs i legal.1 (omega (arith, lt)))

pub legal_more : (g : Needs) (n : ℕ) (h : List Turn) (i : ℕ) → i < length h → IsLegal g n (take i h) → MayFollow g n (take i h) (turn_at h i) → IsLegal g n (take (i + 1) h)
legal_more g n h i lt legal may = subst (IsLegal g n) (sym (take_more h i (End 0 0) lt)) (legal-push g n [] (take i h) (turn_at h i) legal may)

-- ---- what follows from the turns, one turn later

pub past_start : (g : Needs) (n : ℕ) (begun over : List Bool) (hands : List (Option ℕ)) (h : List Turn) (w t : ℕ) → IsPast g n begun over hands h → MayFollow g n h (Start w t)
    → IsPast g n (set begun t true) over (set hands w (Some t)) (h ++ Start w t ∷ [])
past_start g n begun over hands h w t p may =
    let parts = ready_parts g h t may.3.ready in
    let inside : t < length begun = omega (arith, p.begun_len, parts.0) in
    let hand : w < length hands = omega (arith, p.hands_len, may.1) in
    record {
      begun_len = length-set begun t true ∙ p.begun_len;
      begun_is = λ k. set_is begun t k (started h k) inside (p.begun_is k) ∙ sym (started_start h w t k);
      over_len = p.over_len;
      over_is = λ k. p.over_is k ∙ sym (ended_start h w t k);
      hands_len = length-set hands w (Some t) ∙ p.hands_len;
      hands_is = λ k. put_is hands w k (Some t) (runs h k) hand (p.hands_is k) ∙ sym (runs-push h (Start w t) k);
    }

pub past_end : (g : Needs) (n : ℕ) (begun over : List Bool) (hands : List (Option ℕ)) (h : List Turn) (w t : ℕ) → IsPast g n begun over hands h → IsLegal g n h → runs h w ≡ Some t
    → IsPast g n begun (set over t true) (set hands w None) (h ++ End w t ∷ [])
past_end g n begun over hands h w t p legal mine =
    let o = (sound_of g n h legal).open_ w t mine in
    let inside : t < length over = omega (arith, p.over_len, o.2) in
    let hand : w < length hands = omega (arith, p.hands_len, o.1) in
    record {
      begun_len = p.begun_len;
      begun_is = λ k. p.begun_is k ∙ sym (started_end h w t k);
      over_len = length-set over t true ∙ p.over_len;
      over_is = λ k. set_is over t k (ended h k) inside (p.over_is k) ∙ sym (ended_end h w t k);
      hands_len = length-set hands w None ∙ p.hands_len;
      hands_is = λ k. put_is hands w k None (runs h k) hand (p.hands_is k) ∙ sym (runs-push h (End w t) k);
    }

-- a task that hasn't ended
pub not_whole : (g : Needs) (n : ℕ) (begun over : List Bool) (hands : List (Option ℕ)) (h : List Turn) (t : ℕ) → IsPast g n begun over hands h → t < length over → get_or over t false ≡ false → IsWhole g h → ⊥
not_whole g n begun over hands h t p lt off whole = true_is_not (sym (whole t (omega (arith, p.over_len, lt))) ∙ sym (p.over_is t) ∙ off)

pub whole_is : (g : Needs) (n : ℕ) (begun over : List Bool) (hands : List (Option ℕ)) (h : List Turn) (i : ℕ) → IsPast g n begun over hands h → length over ≤ i → ((t : ℕ) → t < i → get_or over t false ≡ true) → IsWhole g h
whole_is g n begun over hands h i p end all t lt = sym (p.over_is t) ∙ all t (omega (arith, p.over_len, end, lt))

-- ---- what is judged

pub judged_wrong : (g : Needs) (n : ℕ) (h : List Turn) (place : ℕ) (turn : Turn) (why : Why) → place < length h → IsLegal g n (take place h) → turn ≡ turn_at h place → IsBad g n (take place h) turn why
    → IsJudged g n h (Wrong place why)
judged_wrong g n h place turn why lt legal is bad =
    let here = subst (λ x. IsBad g n (take place h) x why) is bad in (
      lt,
      legal,
      bad_is g n (take place h) (turn_at h place) why here,
      here,
      λ all. bad_is g n (take place h) (turn_at h place) why here (legal_at g n [] h place all lt),
    )

pub past_more : (g : Needs) (n : ℕ) (begun over : List Bool) (hands : List (Option ℕ)) (h : List Turn) (i : ℕ) (turn : Turn) → i < length h → turn ≡ turn_at h i → IsPast g n begun over hands (take i h ++ turn ∷ [])
    → IsPast g n begun over hands (take (i + 1) h)
past_more g n begun over hands h i turn lt is p =
    subst (IsPast g n begun over hands) (sym (take_more h i (End 0 0) lt)) (subst (λ x. IsPast g n begun over hands (take i h ++ x ∷ [])) is p)

pub legal_next : (g : Needs) (n : ℕ) (h : List Turn) (i : ℕ) (turn : Turn) → i < length h → turn ≡ turn_at h i → IsLegal g n (take i h) → MayFollow g n (take i h) turn → IsLegal g n (take (i + 1) h)
legal_next g n h i turn lt is legal may = legal_more g n h i lt legal (subst (MayFollow g n (take i h)) is may)

pub legal_all : (g : Needs) (n : ℕ) (h : List Turn) (i : ℕ) → i ≡ length h → IsLegal g n (take i h) → IsLegal g n h
legal_all g n h i same legal = subst (IsLegal g n) (ap (λ m. take m h) same ∙ take-length h) legal
