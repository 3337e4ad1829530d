-- The actors of a script, made one after another.
use Rattle.std.proofs.Common.{◌≡◌, ◌+◌, ℕ, zero, suc, List, [], ◌∷◌, ◌++◌, take, map, Option, Some, slice_get, refl, sym, ap, subst, ◌∙◌, arith}
use Rattle.std.specs.Prelude.{Vec}
use Rattle.std.specs.Global.{Global}
use Rattle.std.specs.List.{AllByRecursion}
use Rattle.lr_text.specs.declared.name.ImageName.{ImageName}
use Rattle.lr_script.specs.declared.script.Job.{Job as Line}
use Rattle.lr_script.specs.Seen.{job_seen, jobs_seen, actors_seen}
use Rattle.lr_walk.specs.Jobs.{Context}
use Rattle.lr_actors.specs.declared.place.Context.{Context as Kept}
use Rattle.lr_actors.specs.Jobs.{Job, job_of, seen_context}
use Rattle.lr_actors.specs.Trailed as trailed
use Rattle.lr_actors.specs.Actor as actor
use Rattle.lr_actors.specs.Actor.{MayBeGiven, IsNew}
use Rattle.lr_play.specs.Players.{Player, crash_of, actors_from}
use Rattle.lr_play.specs.Acting.{AreGiven, AreNew}

-- the jobs of lines, at once or one step after another
pub fused : (lines : List Line) → trailed.jobs_seen lines ≡ map job_of (jobs_seen lines)
fused [] = refl
fused (line ∷ lines) = ap (λ (js : List Job). job_of (job_seen line) ∷ js) (fused lines)

abbrev pub AreGivenIn : Kept → List Job → Type 0
AreGivenIn k jobs = AllByRecursion (MayBeGiven (seen_context k) k.hosts) jobs

pub given_same : (k m : Kept) (old new : List Line) → m ≡ k → jobs_seen new ≡ jobs_seen old → AreGivenIn k (map job_of (jobs_seen old)) → AreGivenIn m (trailed.jobs_seen new)
given_same k m old new context jobs h =
    subst (λ (c : Kept). AreGivenIn c (trailed.jobs_seen new)) (sym context) (subst (AreGivenIn k) (sym (fused new ∙ ap (map job_of) jobs)) h)

pub new_same : (k m : Kept) (old new : List Line) (n : ℕ) (crash : Option ℕ) (a : actor.Seen) → m ≡ k → jobs_seen new ≡ jobs_seen old → IsNew n (seen_context m) m.hosts (trailed.jobs_seen new) crash a
    → IsNew n (seen_context k) k.hosts (map job_of (jobs_seen old)) crash a
new_same k m old new n crash a context jobs h =
    subst (λ (c : Kept). IsNew n (seen_context c) c.hosts (map job_of (jobs_seen old)) crash a) context
    (subst (λ (js : List Job). IsNew n (seen_context m) m.hosts js crash a) (fused new ∙ ap (map job_of) jobs) h)

-- ---- one after another

abbrev Lines : Type 0
Lines = List (ImageName × Vec Line Global)

pub player : List (ℕ × ℕ) → ℕ → ImageName × Vec Line Global → Player
player crashes number a = record { number = number; jobs = map job_of (jobs_seen a.1.items); crash = crash_of crashes number }

pub given_at : (context : Context) (hosts : ℕ) (crashes : List (ℕ × ℕ)) (number : ℕ) (actors : Lines) (i : ℕ) (a : ImageName × Vec Line Global)
    → AreGiven context hosts (actors_from crashes number (actors_seen actors)) → slice_get actors i ≡ Some a → AllByRecursion (MayBeGiven context hosts) (map job_of (jobs_seen a.1.items))
given_at context hosts crashes number [] i a h e = absurd (cc)
given_at context hosts crashes number (x ∷ actors) zero a h e =
    let same : x ≡ a = cc in subst (λ (b : ImageName × Vec Line Global). AllByRecursion (MayBeGiven context hosts) (map job_of (jobs_seen b.1.items))) same h.0
given_at context hosts crashes number (x ∷ actors) (suc i) a h e = given_at context hosts crashes (number + 1) actors i a h.1 e

module _ (context : Context) (hosts : ℕ) (crashes : List (ℕ × ℕ)) where
  -- one more
  pub new_more : (number : ℕ) (actors : Lines) (i : ℕ) (a : ImageName × Vec Line Global) (made : List actor.Seen) (one : actor.Seen)
      → AreNew context hosts (actors_from crashes number (actors_seen (take i actors))) made → slice_get actors i ≡ Some a
      → IsNew (number + i) context hosts (map job_of (jobs_seen a.1.items)) (crash_of crashes (number + i)) one
      → AreNew context hosts (actors_from crashes number (actors_seen (take (suc i) actors))) (made ++ one ∷ [])
  new_more number [] i a made one h e new = absurd (cc)
  new_more number (x ∷ actors) zero a [] one h e new =
      let same : a ≡ x = cc in
      let here : number + 0 ≡ number = omega arith in (
        subst (λ (b : ImageName × Vec Line Global). IsNew number context hosts (map job_of (jobs_seen b.1.items)) (crash_of crashes number) one) same
            (subst (λ (n : ℕ). IsNew n context hosts (map job_of (jobs_seen a.1.items)) (crash_of crashes n) one) here new),
        tt,
      )
  new_more number (x ∷ actors) zero a (m ∷ made) one h e new = absurd h
  new_more number (x ∷ actors) (suc i) a [] one h e new = absurd h
  new_more number (x ∷ actors) (suc i) a (m ∷ made) one h e new =
      let next : number + suc i ≡ (number + 1) + i = omega arith in
      (h.0, new_more (number + 1) actors i a made one h.1 e (subst (λ (n : ℕ). IsNew n context hosts (map job_of (jobs_seen a.1.items)) (crash_of crashes n) one) next new))

  pub new_next : (actors : Lines) (place : ℕ) (a : ImageName × Vec Line Global) (lines : List Line) (crash : Option ℕ) (made all : List actor.Seen) (one : actor.Seen)
      → lines ≡ a.1.items → crash ≡ crash_of crashes (place + 1) → all ≡ made ++ one ∷ [] → slice_get actors place ≡ Some a
      → AreNew context hosts (actors_from crashes 1 (actors_seen (take place actors))) made → IsNew (place + 1) context hosts (map job_of (jobs_seen lines)) crash one
      → AreNew context hosts (actors_from crashes 1 (actors_seen (take (place + 1) actors))) all
  new_next actors place a lines crash made all one its falls grown e h new =
      let next : place + 1 ≡ 1 + place = omega arith in
      let more : suc place ≡ place + 1 = omega arith in
      let mine : IsNew (1 + place) context hosts (map job_of (jobs_seen a.1.items)) (crash_of crashes (1 + place)) one =
      subst (λ (n : ℕ). IsNew n context hosts (map job_of (jobs_seen a.1.items)) (crash_of crashes n) one) next
      (subst (λ (o : Option ℕ). IsNew (place + 1) context hosts (map job_of (jobs_seen a.1.items)) o one) falls
      (subst (λ (l : List Line). IsNew (place + 1) context hosts (map job_of (jobs_seen l)) crash one) its new)) in
      subst (λ (n : ℕ). AreNew context hosts (actors_from crashes 1 (actors_seen (take n actors))) all) more
      (subst (AreNew context hosts (actors_from crashes 1 (actors_seen (take (suc place) actors)))) (sym grown) (new_more 1 actors place a made one h e mine))
