-- What a yard keeps as turns come.
use Rattle.std.proofs.Common.{◌≡◌, ℕ, ◌+◌, ◌*◌, ◌<◌, ◌≤◌, List, [], ◌∷◌, ◌++◌, length, Option, Some, None, replicate, true, false, sym, ◌∙◌, subst, arith, set, length-set}
use Rattle.std.proofs.lemmas.List.{length-replicate}
use Rattle.cycle_walks.specs.Graph.{row}
use Rattle.dep_graph.specs.Needs.{Needs}
use Rattle.dep_graph.specs.Waiting.{AreUsers}
use Rattle.ready_yard.specs.declared.turn.Turn.{Turn}
use Rattle.ready_yard.specs.declared.turn.Turn.TheVariants.{Start, End}
use Rattle.ready_yard.specs.History.{runs, MayFollow, IsLeastReady, is_ready, NoneReady}
use Rattle.ready_yard.specs.Kept.{IsYard, IsWaiting, IsMet}
use Rattle.ready_yard.specs.TaskBits.{has, IsPut}
use Rattle.ready_yard.proofs.Turns.{legal-push, ready_parts, put_is, runs-push, sound_start, sound_end, sound_open, room_start, room_end, room_open, blank}
use Rattle.ready_yard.proofs.Waits.{waiting_start, waiting_end}

pub yard_open : (g : Needs) (n : ℕ) (users : Needs) (counts words : List ℕ) (hands : List (Option ℕ)) (h : List Turn) (room : ℕ)
    → AreUsers g users → length users ≡ length g → IsWaiting g [] counts words → hands ≡ replicate (n + 1) None → h ≡ [] → 2 * length g ≤ room → IsYard g n users counts words hands h room
yard_open g n users counts words hands h room are len waiting d e space = rw (d, e) (record {
  users_are = are;
  users_len = len;
  waiting = waiting;
  hands_len = length-replicate (n + 1) None;
  hands_is = λ k. blank (n + 1) k None;
  legal = tt;
  sound = sound_open g n;
  room_is = room_open g room space;
})

pub yard_start : (g : Needs) (n : ℕ) (users : Needs) (counts words counts_new words_new : List ℕ) (hands : List (Option ℕ)) (h : List Turn) (room w t : ℕ)
    → IsYard g n users counts words hands h room → MayFollow g n h (Start w t) → counts_new ≡ counts → IsPut words t false words_new
    → IsYard g n users counts_new words_new (set hands w (Some t)) (h ++ Start w t ∷ []) room
yard_start g n users counts words counts_new words_new hands h room w t y may same put =
    let parts = ready_parts g h t may.3.ready in
    let hand : w < length hands = omega (arith, y.hands_len, may.1) in
    record {
      users_are = y.users_are;
      users_len = y.users_len;
      waiting = subst (λ cs. IsWaiting g (h ++ Start w t ∷ []) cs words_new) (sym same) (waiting_start g h w t counts words words_new y.waiting put);
      hands_len = length-set hands w (Some t) ∙ y.hands_len;
      hands_is = λ k. put_is hands w k (Some t) (runs h k) hand (y.hands_is k) ∙ sym (runs-push h (Start w t) k);
      legal = legal-push g n [] h (Start w t) y.legal may;
      sound = sound_start g n h w t y.sound may.0 may.1 parts.0 parts.1 parts.2 may.2;
      room_is = room_start g h room w t y.room_is parts.0 parts.1;
    }

pub yard_end : (g : Needs) (n : ℕ) (users : Needs) (counts words counts_new words_new : List ℕ) (hands : List (Option ℕ)) (h : List Turn) (room w t : ℕ)
    → IsYard g n users counts words hands h room → runs h w ≡ Some t → IsMet counts words (row users t) counts_new words_new
    → IsYard g n users counts_new words_new (set hands w None) (h ++ End w t ∷ []) room
yard_end g n users counts words counts_new words_new hands h room w t y mine met =
    let o = y.sound.open_ w t mine in
    let hand : w < length hands = omega (arith, y.hands_len, o.1) in
    record {
      users_are = y.users_are;
      users_len = y.users_len;
      waiting = waiting_end g users n h w t counts words counts_new words_new y.sound y.users_are mine y.waiting met;
      hands_len = length-set hands w None ∙ y.hands_len;
      hands_is = λ k. put_is hands w k None (runs h k) hand (y.hands_is k) ∙ sym (runs-push h (End w t) k);
      legal = legal-push g n [] h (End w t) y.legal mine;
      sound = sound_end g n h w t y.sound mine;
      room_is = room_end g h room w t y.room_is o.2 o.4;
    }

-- the least task of the set is the least that is ready
pub least_is : (g : Needs) (h : List Turn) (words : List ℕ) (t : ℕ) → ((k : ℕ) → has words k ≡ is_ready g h k) → has words t ≡ true → ((k : ℕ) → k < t → has words k ≡ false) → IsLeastReady g h t
least_is g h words t are on off = record { ready = sym (are t) ∙ on; least = λ k lt. sym (are k) ∙ off k lt }

pub none_is : (g : Needs) (h : List Turn) (words : List ℕ) → ((k : ℕ) → has words k ≡ is_ready g h k) → ((k : ℕ) → has words k ≡ false) → NoneReady g h
none_is g h words are off k = sym (are k) ∙ off k
