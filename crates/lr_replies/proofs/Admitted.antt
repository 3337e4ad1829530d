-- An actor takes each reply of the called object.
use Rattle.std.proofs.Common.{subst}
use Rattle.lr_actors.specs.declared.action.ActorCall.{ActorCall}
use Rattle.lr_actors.specs.declared.action.ActorReply.{ActorReply}
use Rattle.lr_actors.specs.declared.running.Running.{Running}
use Rattle.lr_actors.specs.declared.running.Running.TheVariants as running
use Rattle.lr_actors.specs.declared.single.Single.{Single}
use Rattle.lr_actors.specs.Asked.{HandsCall, seen_reply}
use Rattle.lr_actors.specs.Running.{asked, Admits, makes}
use Rattle.lr_actors.specs.Begun.{IsTaskOf}
use Rattle.lr_actors.specs.Actor.{Seen, Now, works, idles, reaps, over, reap_at, reap_of, FitsNow, StandsNow, asks_now, AdmitsNow}
use Rattle.lr_replies.specs.Objects.{Objects, own_lists, Replies}
use Rattle.lr_replies.specs.Replies.{IsReady, RepliesAreAdmitted}
use Rattle.lr_replies.proofs.Tables.{answers_call, never_uncalled}
use Rattle.lr_replies.proofs.Depots.{close_home, makes_takes, forges_takes, collects_takes, migrates_takes, creates_takes}
use Rattle.lr_replies.proofs.Under.{Laws}
use Rattle.lr_replies.proofs.Calling.{serves_takes}

module _ (laws : Laws) (w : Objects) (a : Seen) (c : ActorCall) (reply : ActorReply) (ready : IsReady w a) (replies : Replies w a.number c reply) where
  pub works_takes : (r : Running) → FitsNow (works r) a → StandsNow (works r) a (own_lists w a.number) → HandsCall c (asked r) → Admits r (seen_reply reply)
  works_takes (running.Serves device p) f s h = serves_takes laws w a ready c reply replies device p.work p.ready p.need f s h
  works_takes (running.Makes p) f s h =
      makes_takes w a.number c reply replies p.single p.need
      (λ lease e. close_home w a.context f.1.0 lease (subst (λ (single : Single). IsTaskOf a.context f.1.0 (makes single)) e f.1.2.is) (ready.lease f.1.0 f.1.1)) h
  works_takes (running.Forges p) f s h = forges_takes w a.number c reply replies p.target p.need h
  works_takes (running.Collects p) f s h = collects_takes w a.number c reply replies p.job p.ready p.need h
  works_takes (running.Migrates p) f s h = migrates_takes w a.number c reply replies p.image p.ready p.need h
  works_takes (running.Creates p) f s h = creates_takes w a.number c reply replies p p.create.need h

  now_takes : (now : Now) → FitsNow now a → StandsNow now a (own_lists w a.number) → HandsCall c (asks_now now a) → AdmitsNow now a (seen_reply reply)
  now_takes (works r) f s h = works_takes r f s h
  now_takes idles f s h = absurd (never_uncalled c h)
  now_takes (reaps made) f s h = answers_call w a.number c reply (reap_of (reap_at a.context a.hosts made)) h replies
  now_takes over f s h = absurd (never_uncalled c h)

pub admitted : Laws → RepliesAreAdmitted
admitted laws w a c reply ready calls replies = now_takes laws w a c reply ready replies a.now ready.is.now ready.stands calls.asked
