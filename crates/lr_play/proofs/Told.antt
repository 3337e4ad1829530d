-- The trails of actors that have played.
use Rattle.std.proofs.Common.{◌≡◌, ◌≢◌, ◌≤◌, ◌<◌, ◌+◌, ℕ, zero, suc, List, [], ◌∷◌, length, take, map, Some, Bool, true, false, cond, nat_eq, slice_get, sum_by, refl, sym, ap, subst, ◌∙◌, arith}
use Rattle.std.specs.List.{AllByRecursion, AllZip}
use Rattle.std.proofs.lemmas.List.Sums.{sum_by-cons}
use Rattle.lr_spec.specs.Rose.{last_count}
use Rattle.lr_object.specs.declared.id.ObjectId.{ObjectId}
use Rattle.lr_walk.specs.Jobs.{Context}
use Rattle.lr_walk.specs.Trails.{Lists}
use Rattle.lr_script.specs.Seen.{ScheduleSeen, Serial, Rounds, Pairs, ScriptSeen}
use Rattle.lr_script.specs.Within.{ScheduleWithin}
use Rattle.lr_actors.specs.declared.place.Parts.{Parts}
use Rattle.lr_actors.specs.declared.trail.Trail.{Trail}
use Rattle.lr_actors.specs.declared.trail.ActorState.{ActorState}
use Rattle.lr_actors.specs.declared.trail.ActorState.TheVariants.{Ended, Crashed, Unfinished}
use Rattle.lr_actors.specs.Records.{HasTrail}
use Rattle.lr_actors.specs.Actor as actor
use Rattle.lr_actors.specs.Actor.{IsNew, AreEnded, FitsState, FitsCrash, FitsNow, over, steps_in, steps_made, bounds_of}
use Rattle.lr_actors.specs.Trailed.{IsTrailOf}
use Rattle.lr_replies.specs.Objects.{Objects, own_lists}
use Rattle.lr_world.specs.World as world
use Rattle.lr_world.specs.World.{Seen, objects_of, Part, cast_of, HasNoneOut, HasNoSession, HasSessions, HoldsNothing, IsInPlace, IsWorld}
use Rattle.lr_world.specs.World.{LetsGo as LetsGoNow}
use Rattle.lr_world.specs.Runs.{steps_for, AllEnded, Ends, AreCounted}
use Rattle.lr_world.specs.Bounded.{removals}
use Rattle.lr_play.specs.Players.{Player}
use Rattle.lr_play.specs.Acting.{AreNew, HaveActed}
use Rattle.lr_play.specs.Played.{IsTrail, FitsAnswers, FitsSchedule, LetsGo, part_of}
use Rattle.lr_play.proofs.Lists.{zip_at, zip_at_first, zip_length, zip_by, all_by, within, there, at_map}
use Rattle.lr_play.proofs.Acting.{as_many}
use Rattle.lr_play.proofs.Beginning.{cast_is}

pub same_lists : (f g : Lists) → ((o : ObjectId) → f o ≡ g o) → f ≡ g
same_lists f g e = λ i o. e o i

take_whole : {X : Type 0} (xs : List X) (n : ℕ) → length xs ≡ n → take n xs ≡ xs
take_whole [] zero e = refl
take_whole [] (suc n) e = absurd (cc)
take_whole (x ∷ xs) zero e = absurd (cc)
take_whole (x ∷ xs) (suc n) e = ap (λ (ys : List _). x ∷ ys) (take_whole xs n (omega (arith, e)))

-- ---- one trail

module _ (a : actor.Seen) (t : Trail) (h : IsTrailOf a t) where
  answers : (s : ActorState) → FitsState s a → FitsAnswers s t
  answers Ended f =
      let long : length t.results.items ≡ length a.account.results = h.each ∙ sym f.1 in
      subst AreEnded (sym h.begins ∙ take_whole t.results.items (length a.account.results) long) f.0
  answers Crashed f = h.cut
  answers Unfinished f = h.cut

  pub one_trail : (context : Context) (hosts : ℕ) (w v : Objects) (p : Player) → world.part_of a ≡ part_of context hosts p → IsInPlace w a → ((o : ObjectId) → own_lists v a.number o ≡ own_lists w a.number o)
      → steps_made a ≤ bounds_of p.jobs + removals (own_lists v p.number) → IsTrail context v p t
  one_trail context hosts w v p part place own few = record {
    trail = subst (λ (q : Part). HasTrail q.context (own_lists v q.number) q.jobs t.results.items) part
        (subst (λ (lists : Lists). HasTrail a.context lists a.jobs t.results.items) (sym (same_lists (own_lists v a.number) (own_lists w a.number) own)) (h.trail (own_lists w a.number) place.stands));
    answers = subst (λ (s : ActorState). FitsAnswers s t) (sym h.state) (answers a.state place.is.state);
    crash = subst (λ (q : Part). FitsCrash q.crash t.state (steps_in t.results.items)) part
        (subst (λ (s : ActorState). FitsCrash a.crash s (steps_in t.results.items)) (sym h.state) (subst (FitsCrash a.crash a.state) (sym h.made) place.is.crash));
    bound = omega (arith, h.made, few);
  }

  has_ended : (w : Objects) → IsInPlace w a → a.now ≡ over → t.state ≢ Unfinished
  has_ended w place ends = λ e. (subst (λ (n : actor.Now). FitsNow n a) ends place.is.now).0 (sym h.state ∙ e)

-- the steps for one number are among all
steps_least : (n : ℕ) (pairs : List (ℕ × ℕ)) → steps_for n pairs ≤ sum_by (λ (p : ℕ × ℕ). p.1) pairs
steps_least n [] = omega arith
steps_least n (p ∷ pairs) = by (steps_least n pairs) (sum_by-cons (λ (q : ℕ × ℕ). q.1) p pairs) (nat_eq p.0 n)
  where
    by : steps_for n pairs ≤ sum_by (λ (q : ℕ × ℕ). q.1) pairs → sum_by (λ (q : ℕ × ℕ). q.1) (p ∷ pairs) ≡ p.1 + sum_by (λ (q : ℕ × ℕ). q.1) pairs → (b : Bool)
        → cond b p.1 0 + steps_for n pairs ≤ sum_by (λ (q : ℕ × ℕ). q.1) (p ∷ pairs)
    by more all true = omega (arith, more, all)
    by more all false = omega (arith, more, all)

-- ---- all trails

module _ {O : Type 0} (script : ScriptSeen) (context : Context) (hosts : ℕ) (players : List Player) (s : ScheduleSeen) (old : Seen O) (parts : Parts O) (told : List Trail)
    (new : AreNew context hosts players old.actors) (acted : HaveActed s old parts told) (is : IsWorld context hosts acted.new) where
  abbrev w : Objects
  w = objects_of acted.new

  cast : cast_of acted.new ≡ map (part_of context hosts) players
  cast = acted.left.cast ∙ cast_is context hosts players old.actors new

  many : length told ≡ length players
  many = zip_length IsTrailOf acted.new.actors told acted.trails ∙ (as_many old acted.new acted.left ∙ zip_length (λ (p : Player) (a : actor.Seen). IsNew p.number context hosts p.jobs p.crash a) players old.actors new)

  -- the actor of a trail
  record OfPlayer (i : ℕ) (p : Player) (t : Trail) : Type 0 where
    is_now : actor.Seen
    at : slice_get acted.new.actors i ≡ Some is_now
    tells : IsTrailOf is_now t
    part : world.part_of is_now ≡ part_of context hosts p
    was : actor.Seen
    at_first : slice_get old.actors i ≡ Some was
    made : IsNew p.number context hosts p.jobs p.crash was

  of_player : (i : ℕ) (p : Player) (t : Trail) → slice_get players i ≡ Some p → slice_get told i ≡ Some t → OfPlayer i p t
  of_player i p t e f =
      let a = zip_at IsTrailOf acted.new.actors told i t acted.trails f in
      let b = zip_at_first (λ (q : Player) (x : actor.Seen). IsNew q.number context hosts q.jobs q.crash x) players old.actors i p new e in
      let one : Some (world.part_of a.0) ≡ Some (part_of context hosts p) =
      sym (at_map world.part_of acted.new.actors i a.0 a.1) ∙ (ap (λ (xs : List Part). slice_get xs i) cast ∙ at_map (part_of context hosts) players i p e) in
      record { is_now = a.0; at = a.1; tells = a.2; part = cc; was = b.0; at_first = b.1; made = b.2 }

  pub all_trails : (v : Objects) → ((i : ℕ) (p : Player) → slice_get players i ≡ Some p → (o : ObjectId) → own_lists v p.number o ≡ own_lists w p.number o) → AllZip (IsTrail context v) players told
  all_trails v own = zip_by (IsTrail context v) players told many (λ i p t e f. by i p t e (of_player i p t e f))
    where
      by : (i : ℕ) (p : Player) (t : Trail) → slice_get players i ≡ Some p → OfPlayer i p t → IsTrail context v p t
      by i p t e a = one_trail a.is_now t a.tells context hosts w v p a.part (is.actors i a.is_now a.at)
          (λ o. subst (λ (n : ℕ). own_lists v n o ≡ own_lists w n o) (sym (ap (λ (q : Part). q.number) a.part)) (own i p e o))
          (subst (λ (lists : Lists). steps_made a.is_now ≤ bounds_of p.jobs + removals lists) (sym (same_lists (own_lists v p.number) (own_lists w p.number) (own i p e)))
          (acted.bounded i p.number context hosts p.jobs p.crash a.was a.is_now a.at_first a.at a.made))

  all_ended : AllEnded acted.new → AllZip (λ (p : Player) (t : Trail). t.state ≢ Unfinished) players told
  all_ended ends = zip_by (λ (p : Player) (t : Trail). t.state ≢ Unfinished) players told many (λ i p t e f. by i p t (of_player i p t e f))
    where
      by : (i : ℕ) (p : Player) (t : Trail) → OfPlayer i p t → t.state ≢ Unfinished
      by i p t a = has_ended a.is_now t a.tells w (is.actors i a.is_now a.at) (ends i a.is_now a.at)

  -- an unfinished actor made just the steps of its pairs
  by_pairs : (pairs : List (ℕ × ℕ)) → sum_by (λ (p : ℕ × ℕ). p.1) pairs ≤ 1000000 → AreCounted (Pairs pairs false) old acted.new → AllZip (λ (p : Player) (t : Trail). t.state ≡ Unfinished → t.steps ≡ steps_for p.number pairs) players told
  by_pairs pairs few counted = zip_by (λ (p : Player) (t : Trail). t.state ≡ Unfinished → t.steps ≡ steps_for p.number pairs) players told many (λ i p t e f. by i p t (of_player i p t e f))
    where
      by : (i : ℕ) (p : Player) (t : Trail) → OfPlayer i p t → t.state ≡ Unfinished → t.steps ≡ steps_for p.number pairs
      by i p t a un =
          let least : steps_for p.number pairs ≤ sum_by (λ (q : ℕ × ℕ). q.1) pairs = steps_least p.number pairs in
          let first : a.was.steps ≡ 0 = a.made.steps in
          let same : steps_for a.was.number pairs ≡ steps_for p.number pairs = ap (λ (n : ℕ). steps_for n pairs) a.made.number in
          let fits : a.was.steps + steps_for a.was.number pairs ≤ last_count = omega (arith, least, first, same, few) in
          let made : a.is_now.steps ≡ a.was.steps + steps_for a.was.number pairs = counted i a.was a.is_now a.at_first a.at (sym a.tells.state ∙ un) fits in
          let tells : t.steps ≡ a.is_now.steps = a.tells.steps in
          omega (arith, made, tells, first, same)

  fits_by : (z : ScheduleSeen) → ScheduleWithin script z → Ends z acted.new → AreCounted z old acted.new → AllZip (FitsSchedule z) players told
  fits_by Serial within ends counted = all_ended ends
  fits_by Rounds within ends counted = all_ended ends
  fits_by (Pairs pairs false) within ends counted = by_pairs pairs within.1 counted
  fits_by (Pairs pairs true) within ends counted = all_ended ends

  pub all_fit : ScheduleWithin script s → AllZip (FitsSchedule s) players told
  all_fit within = fits_by s within acted.ends acted.counted

  -- ---- what is out

  -- of these callers the own lists and the sessions are as they were when they had acted
  record AreAsActed (v : Objects) : Type 0 where
    lists : (i : ℕ) (p : Player) → slice_get players i ≡ Some p → (o : ObjectId) → own_lists v p.number o ≡ own_lists w p.number o
    sessions : (i : ℕ) (p : Player) → slice_get players i ≡ Some p → HasNoSession w p.number → HasNoSession v p.number

  none_out : (v : Objects) → AreAsActed v → AllEnded acted.new → AllByRecursion (λ (p : Player). HoldsNothing v p.number) players
  none_out v same ends = all_by (λ (p : Player). HoldsNothing v p.number) players (λ i p e. by i p e (there told i (let l : i < length players = within players i p e in let m = many in omega (arith, l, m))))
    where
      by : (i : ℕ) (p : Player) → slice_get players i ≡ Some p → (t : Trail) × (slice_get told i ≡ Some t) → HoldsNothing v p.number
      by i p e t =
          let a = of_player i p t.0 e t.1 in
          let place : IsInPlace w a.is_now = is.actors i a.is_now a.at in
          let over_now : a.is_now.now ≡ over = ends i a.is_now a.at in
          let number : a.is_now.number ≡ p.number = ap (λ (q : Part). q.number) a.part in
          record {
            lists = λ o. subst (λ (lists : Lists). HasNoneOut lists o) (sym (same_lists (own_lists v p.number) (own_lists w p.number) (same.lists i p e)))
                (subst (λ (n : ℕ). HasNoneOut (own_lists w n) o) number (place.gone o (subst (λ (n : actor.Now). LetsGoNow n a.is_now o) (sym over_now) tt)));
            sessions = same.sessions i p e (subst (HasNoSession w) number (subst (λ (n : actor.Now). HasSessions n w a.is_now.number) over_now place.sessions));
          }

  unbound : (v : Objects) → AllByRecursion (λ (p : Player). Unit {0}) players
  unbound v = all_by (λ (p : Player). Unit {0}) players (λ i p e. tt)

  lets_go : (v : Objects) → AreAsActed v → (z : ScheduleSeen) → Ends z acted.new → AllByRecursion (LetsGo z v) players
  lets_go v same Serial ends = none_out v same ends
  lets_go v same Rounds ends = none_out v same ends
  lets_go v same (Pairs pairs false) ends = unbound v
  lets_go v same (Pairs pairs true) ends = none_out v same ends

  pub all_let_go : (v : Objects) → ((i : ℕ) (p : Player) → slice_get players i ≡ Some p → (o : ObjectId) → own_lists v p.number o ≡ own_lists w p.number o)
      → ((i : ℕ) (p : Player) → slice_get players i ≡ Some p → HasNoSession w p.number → HasNoSession v p.number) → AllByRecursion (LetsGo s v) players
  all_let_go v own none = lets_go v (record { lists = own; sessions = none }) s acted.ends
