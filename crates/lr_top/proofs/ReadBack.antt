-- a reading over a store that has the image
use Rattle.std.proofs.Common.{◌≡◌, ◌+◌, ℕ, zero, suc, List, [], ◌∷◌, ◌++◌, map, take, length, Option, Some, None, refl, ap, subst, sym, ◌∙◌, inl, inr}
use Rattle.std.specs.Prelude.{◌⊎◌}
use Rattle.std.specs.Arc.{arc_value}
use Rattle.std.specs.declared.sync.Arc.{Arc}
use Rattle.std.specs.declared.alloc.Global.{Global}
use Rattle.std.specs.FinMap as fin
use Rattle.lr_io.specs.Streams.{Appends}
use Rattle.lr_manifest.specs.Manifest.{ManifestFields}
use Rattle.lr_seal.specs.Table.{HasTag}
use Rattle.lr_seal.specs.Denotation.{denotation, IsDenotedByTag}
use Rattle.lr_origin.specs.Objects.{Objects}
use Rattle.lr_origin.specs.declared.key.KeyKind.TheVariants as kind
use Rattle.lr_roots.specs.View.{View, Held, manifest}
use Rattle.lr_roots.specs.Roots.{IsHome, IsHomeless}
use Rattle.lr_rules.specs.State.{State}
use Rattle.lr_rules.specs.Calls.{MayOpen}
use Rattle.lr_rules.proofs.Facts.{home_unique}
use Rattle.lr_rules.proofs.Keys.{no_some}
use Rattle.lr_rules.proofs.Doubts.{same_some}
use Rattle.lr_rules.proofs.Outcomes.{not_both}
use Rattle.lr_depot.specs.declared.call.DepotCall.{DepotCall}
use Rattle.lr_depot.specs.declared.call.DepotCall.TheVariants.{OpenImage, PutChunk, PutManifest}
use Rattle.lr_depot.specs.declared.call.DepotNoted.{DepotNoted}
use Rattle.lr_depot.specs.declared.call.DepotNoted.TheVariants as noted
use Rattle.lr_depot.specs.declared.call.DepotReply.{DepotReply}
use Rattle.lr_depot.specs.declared.call.DepotReply.TheVariants as by
use Rattle.lr_depot.specs.declared.call.DepotTold.{DepotTold}
use Rattle.lr_depot.specs.declared.call.DepotTold.TheVariants as told
use Rattle.lr_depot.specs.Begun.{Start}
use Rattle.lr_depot.specs.Machine.{LogEntry, IsUnopened, DepotStep, Enters, IsNoted, IsTold}
use Rattle.lr_depot.specs.Store.{IsRun}
use Rattle.lr_depot.specs.Depot.{IsStart, first_state}
use Rattle.lr_walk.specs.Depot.{Call, Step, step, step_of, logged, Reply, no_image, opened, memory, no_lease, no_chunk, fetched, fault, spoiled, opens, fetches, closes, seen_noted, seen_told, Answers}
use Rattle.lr_images.specs.Cat as cat
use Rattle.lr_images.proofs.Made.{first_entry}
use Rattle.lr_stop.specs.Images.{bodies, HasImage, IsKept, ReadsBack}
use Rattle.lr_stop.specs.Stops.{ImagesAreFoundAgain}
use Rattle.lr_desk.specs.declared.outcome.Refusal.TheVariants as refusal
use Rattle.lr_desk.specs.declared.outcome.Outcome.{Outcome}
use Rattle.lr_desk.specs.declared.outcome.Outcome.TheVariants.{Done, Usage, ReadFault, WriteFault, OriginFault, Memory, Refused, Foreign, Spoiled, TooMany}
use Rattle.lr_desk.specs.Causes.{IsComplete}
use Rattle.lr_desk.specs.Ends.{outcome_of, failure, outcome_read, Setting, IsReadText, WasRead, IsWritten, IsFinish, HasRun}
use Rattle.lr_top.specs.Again.{ImagesAreReadAgain}

-- ---- the first entry of a reading

call_open : (q : DepotNoted) (image : List ℕ) → seen_noted q ≡ opens image → q ≡ noted.OpenImage image
call_open (noted.OpenImage i) image e = ap noted_of e
  where
    noted_of : Call → DepotNoted
    noted_of (opens i) = noted.OpenImage i
    noted_of c = noted.Reap
call_open q image e = absurd (cc)

noted_open : (call : DepotCall) (image : List ℕ) → IsNoted call (noted.OpenImage image) → call ≡ OpenImage image
noted_open (OpenImage i) image h = ap call_of (sym h)
  where
    call_of : DepotNoted → DepotCall
    call_of (noted.OpenImage i) = OpenImage i
    call_of q = OpenImage []
noted_open (PutChunk n p) image h = absurd h
noted_open (PutManifest n p) image h = absurd h
noted_open call image h = absurd (cc)

told_none : (t : DepotTold) → seen_told t ≡ no_image → t ≡ told.NoImage
told_none told.NoImage e = refl
told_none t e = absurd (cc)

reply_none : (reply : DepotReply) → IsTold reply told.NoImage → reply ≡ by.NoImage
reply_none by.NoImage h = refl
reply_none (by.Opened lease m) h = absurd h
reply_none (by.Fetched chunk) h = absurd h
reply_none (by.Moving session from to m) h = absurd h
reply_none (by.Copied chunk) h = absurd h
reply_none by.Nothing h = absurd h
reply_none by.OutOfMemory h = absurd h
reply_none reply h = absurd (cc)

told_opened : (t : DepotTold) (lease : ℕ) (m : ManifestFields) → seen_told t ≡ opened lease m → (l : ℕ) × (p : Arc ManifestFields Global) × (t ≡ told.Opened l p) × (arc_value p ≡ m)
told_opened (told.Opened l p) lease m e = (l, p, refl, ap fields_of e)
  where
    fields_of : Reply → ManifestFields
    fields_of (opened l m) = m
    fields_of r = arc_value p
told_opened t lease m e = absurd (cc)

reply_opened : (reply : DepotReply) (l : ℕ) (p : Arc ManifestFields Global) → IsTold reply (told.Opened l p) → (k : ℕ) × (q : Arc ManifestFields Global) × (reply ≡ by.Opened k q) × (arc_value p ≡ arc_value q)
reply_opened (by.Opened k q) l p h = (k, q, refl, h.1)
reply_opened (by.Fetched chunk) l p h = absurd h
reply_opened (by.Moving session from to m) l p h = absurd h
reply_opened (by.Copied chunk) l p h = absurd h
reply_opened by.Nothing l p h = absurd h
reply_opened by.OutOfMemory l p h = absurd h
reply_opened reply l p h = absurd (cc)

module _ (s : State) (image : List ℕ) (e : LogEntry) (call : DepotCall) (reply : DepotReply) (d : DepotStep s e.caller call reply) (enters : Enters call reply e) (is_call : seen_noted e.call ≡ opens image) where
  called : call ≡ OpenImage image
  called = noted_open call image (subst (IsNoted call) (call_open e.call image is_call) enters.noted)

  unopened : seen_told e.reply ≡ no_image → IsUnopened s.known.view image
  unopened is =
      let gave : reply ≡ by.NoImage = reply_none reply (subst (IsTold reply) (told_none e.reply is) enters.told) in
      subst (λ q. DepotStep s e.caller q by.NoImage) called (subst (λ q. DepotStep s e.caller call q) gave d)

  may_open : (lease : ℕ) (m : ManifestFields) → seen_told e.reply ≡ opened lease m → (r : ℕ) × MayOpen s image r m
  may_open lease m is =
      let t = told_opened e.reply lease m is in
      let g = reply_opened reply t.0 t.1 (subst (IsTold reply) t.2 enters.told) in
      let at : DepotStep s e.caller (OpenImage image) (by.Opened g.0 g.1) = subst (λ q. DepotStep s e.caller q (by.Opened g.0 g.1)) called (subst (λ q. DepotStep s e.caller call q) g.2 d) in
      (at.0, subst (MayOpen s image at.0) (sym g.3 ∙ t.3) at.1)

-- ---- what a reading may end with

same_fields : (x y : ManifestFields) → manifest x ≡ manifest y → x ≡ y
same_fields x y e = ap fields_in e
  where
    fields_in : Held → ManifestFields
    fields_in (manifest m) = m
    fields_in h = x

module _ (view : View) (image : List ℕ) (home : ℕ) (fields : ManifestFields) (s : State) (of : s.known.view ≡ view) (may : MayOpen s image home fields) where
  pub only_home : (r : ℕ) (m : ManifestFields) → MayOpen s image r m → (r ≡ home) × (m ≡ fields)
  only_home r m other =
      let e : r ≡ home = home_unique s.known.view image r home other.home may.home in
      (e, same_fields m fields (same_some (manifest m) (manifest fields) (sym other.listed ∙ (ap (λ q. fin.get s.known.view (kind.Manifest q image)) e ∙ may.listed))))

  pub not_unopened : IsUnopened s.known.view image → ⊥
  not_unopened (inl homeless) = no_some _ (homeless home may.home.live) may.home.listed
  not_unopened (inr withdrawn) = no_some _ may.kept withdrawn

-- a fetch isn't refused
fetch_answer : (lease index : ℕ) (r : Reply) → Answers (fetches lease index) r → IsComplete (failure (outcome_of r)) → failure (outcome_of r) ≡ Memory
fetch_answer lease index no_lease a c = refl
fetch_answer lease index no_chunk a c = refl
fetch_answer lease index (fetched name) a c = refl
fetch_answer lease index (fault k) a c = absurd c
fetch_answer lease index (spoiled k) a c = absurd c
fetch_answer lease index memory a c = refl
fetch_answer lease index r a c = absurd a

fetches_end : (lease left index : ℕ) (steps : List Step) (end : cat.Ending) → cat.Fetches lease left index steps end → (reply : Reply) → end ≡ cat.with_reply reply → IsComplete (failure (outcome_of reply)) → failure (outcome_of reply) ≡ Memory
fetches_end lease zero index steps end (inl w) reply e c = absurd (let f : cat.with_bytes ≡ cat.with_reply reply = sym w.1 ∙ e in cc)
fetches_end lease zero index steps end (inr w) reply e c = absurd (let f : cat.with_memory ≡ cat.with_reply reply = sym w.1 ∙ e in cc)
fetches_end lease (suc left) index steps end (inr w) reply e c = absurd (let f : cat.with_memory ≡ cat.with_reply reply = sym w.1 ∙ e in cc)
fetches_end lease (suc left) index steps end (inl (r, first, tail, are, (is, answers), after)) reply e c = by r answers after (λ w. fetches_end lease left (index + 1) tail end w reply e c)
  where
    reply_in : cat.Ending → Reply
    reply_in (cat.with_reply r) = r
    reply_in end = reply

    same : (r : Reply) → end ≡ cat.with_reply r → r ≡ reply
    same r f = ap reply_in (sym f ∙ e)

    by : (r : Reply) → Answers (fetches lease index) r → cat.after_fetch (cat.Fetches lease left (index + 1)) r tail end → (cat.Fetches lease left (index + 1) tail end → failure (outcome_of reply) ≡ Memory) → failure (outcome_of reply) ≡ Memory
    by (fetched name) a w next = next w
    by memory a w next = absurd (let f : cat.with_memory ≡ cat.with_reply reply = sym w.1 ∙ e in cc)
    by no_lease a w next = subst (λ r. failure (outcome_of r) ≡ Memory) (same no_lease w.1) refl
    by no_chunk a w next = subst (λ r. failure (outcome_of r) ≡ Memory) (same no_chunk w.1) refl
    by (fault k) a w next = absurd (subst (λ r. IsComplete (failure (outcome_of r))) (sym (same (fault k) w.1)) c)
    by (spoiled k) a w next = absurd (subst (λ r. IsComplete (failure (outcome_of r))) (sym (same (spoiled k) w.1)) c)
    by r a w next = absurd a

fetches_open : (lease left index : ℕ) (steps : List Step) (end : cat.Ending) → cat.Fetches lease left index steps end → end ≡ cat.with_wrong_key → ⊥
fetches_open lease zero index steps end (inl w) e = let f : cat.with_bytes ≡ cat.with_wrong_key = sym w.1 ∙ e in cc
fetches_open lease zero index steps end (inr w) e = let f : cat.with_memory ≡ cat.with_wrong_key = sym w.1 ∙ e in cc
fetches_open lease (suc left) index steps end (inr w) e = let f : cat.with_memory ≡ cat.with_wrong_key = sym w.1 ∙ e in cc
fetches_open lease (suc left) index steps end (inl (r, first, tail, are, (is, answers), after)) e = by r answers after (λ w. fetches_open lease left (index + 1) tail end w e)
  where
    by : (r : Reply) → Answers (fetches lease index) r → cat.after_fetch (cat.Fetches lease left (index + 1)) r tail end → (cat.Fetches lease left (index + 1) tail end → ⊥) → ⊥
    by (fetched name) a w next = next w
    by memory a w next = let f : cat.with_memory ≡ cat.with_wrong_key = sym w.1 ∙ e in cc
    by no_lease a w next = let f : cat.with_reply no_lease ≡ cat.with_wrong_key = sym w.1 ∙ e in cc
    by no_chunk a w next = let f : cat.with_reply no_chunk ≡ cat.with_wrong_key = sym w.1 ∙ e in cc
    by (fault k) a w next = let f : cat.with_reply (fault k) ≡ cat.with_wrong_key = sym w.1 ∙ e in cc
    by (spoiled k) a w next = let f : cat.with_reply (spoiled k) ≡ cat.with_wrong_key = sym w.1 ∙ e in cc
    by r a w next = a

leased_end : (tenant : List ℕ) (lease : ℕ) (m : ManifestFields) (steps : List Step) (end : cat.Ending) → cat.ReadsLease tenant lease m steps end → (reply : Reply) → end ≡ cat.with_reply reply → IsComplete (failure (outcome_of reply)) → failure (outcome_of reply) ≡ Memory
leased_end tenant lease m steps end (inl w) reply e c = fetches_end lease (length m.names) 0 steps end w.1 reply e c
leased_end tenant lease m steps end (inr (inl w)) reply e c = absurd (let f : cat.with_wrong_key ≡ cat.with_reply reply = sym w.1.1 ∙ e in cc)
leased_end tenant lease m steps end (inr (inr w)) reply e c = absurd (let f : cat.with_memory ≡ cat.with_reply reply = sym w.1 ∙ e in cc)

leased_open : (tenant : List ℕ) (lease : ℕ) (m : ManifestFields) (steps : List Step) (end : cat.Ending) → cat.ReadsLease tenant lease m steps end → end ≡ cat.with_wrong_key → HasTag m tenant → ⊥
leased_open tenant lease m steps end (inl w) e tag = fetches_open lease (length m.names) 0 steps end w.1 e
leased_open tenant lease m steps end (inr (inl w)) e tag = w.0 tag
leased_open tenant lease m steps end (inr (inr w)) e tag = let f : cat.with_memory ≡ cat.with_wrong_key = sym w.1 ∙ e in cc

-- ---- how the command ends

written : (text : List ℕ) (before after : Option (List ℕ)) (o : Outcome) → IsWritten before text after o → IsComplete o → ((o ≡ Done) × Appends before text after) ⊎ (o ≡ Memory)
written text before after Done h c = inl (refl, h)
written text before after Memory h c = inr refl
written text before after WriteFault h c = absurd c
written text before after o h c = absurd h

other : (text : List ℕ) (before after : Option (List ℕ)) (x o : Outcome) → IsFinish (failure x) text before after o → o ≡ failure x
other text before after Done o h = h.0
other text before after Usage o h = h.0
other text before after ReadFault o h = h.0
other text before after WriteFault o h = h.0
other text before after OriginFault o h = h.0
other text before after Memory o h = h.0
other text before after (Refused r) o h = h.0
other text before after (Foreign key) o h = h.0
other text before after (Spoiled key) o h = h.0
other text before after TooMany o h = h.0

module _ (again : ImagesAreFoundAgain) (by_tag : IsDenotedByTag) (s : Setting) (n : Objects) (image tenant bytes : List ℕ) (log : List LogEntry) (begun : IsStart s.start) (had : s.start.objects ≡ Some n) (tells : s.objects ≡ Some n)
    (runs : IsRun (first_state s.start) log) (back : ReadsBack n image tenant bytes) (kept : IsKept n image) where
  may : MayOpen (first_state s.start) image back.has.home back.fields
  may = (again s.start n image back.fields begun had back.has kept).0

  tagged : (HasTag back.fields tenant → ⊥) → ⊥
  tagged wrong = not_both (denotation back.fields tenant (bodies n back.has.home)) bytes (by_tag.wrong back.fields tenant (bodies n back.has.home) wrong) back.denotes

  module _ (o0 : Outcome) (text : List ℕ) (w : WasRead image tenant s log o0 text) where
    open_none : (tail : List Step) → w.steps ≡ step (opens image) no_image ∷ tail → ⊥
    open_none tail are =
        let f = first_entry w.goes_on.own (step (opens image) no_image) (logged tail) (w.goes_on.steps_of ∙ ap logged are) in
        let here : IsRun (first_state s.start) (f.0 ∷ f.1) = subst (IsRun (first_state s.start)) (w.goes_on.after ∙ f.2) runs in
        not_unopened s.start.view image back.has.home back.fields (first_state s.start) refl may
        (unopened (first_state s.start) image f.0 here.0 here.1 here.2 here.3 (ap (λ (q : Step). q.call) f.3) (ap (λ (q : Step). q.reply) f.3))

    open_fields : (lease : ℕ) (m : ManifestFields) (tail : List Step) → w.steps ≡ step (opens image) (opened lease m) ∷ tail → m ≡ back.fields
    open_fields lease m tail are =
        let f = first_entry w.goes_on.own (step (opens image) (opened lease m)) (logged tail) (w.goes_on.steps_of ∙ ap logged are) in
        let here : IsRun (first_state s.start) (f.0 ∷ f.1) = subst (IsRun (first_state s.start)) (w.goes_on.after ∙ f.2) runs in
        let at = may_open (first_state s.start) image f.0 here.0 here.1 here.2 here.3 (ap (λ (q : Step). q.call) f.3) lease m (ap (λ (q : Step). q.reply) f.3) in
        (only_home s.start.view image back.has.home back.fields (first_state s.start) refl may at.0 m at.1).1

    by_reply : (reply : Reply) → w.end ≡ cat.with_reply reply → IsComplete (failure (outcome_of reply)) → failure (outcome_of reply) ≡ Memory
    by_reply reply e c = at w.walk
      where
        at : cat.Cats image tenant w.steps w.end → failure (outcome_of reply) ≡ Memory
        at (r, first, tail, are, (is, answers), after) = by r answers after (are ∙ ap (λ q. q ∷ tail) is)
          where
            by : (r : Reply) → Answers (opens image) r → cat.after_open tenant r tail w.end → w.steps ≡ step (opens image) r ∷ tail → failure (outcome_of reply) ≡ Memory
            by no_image a z steps = absurd (open_none tail steps)
            by (opened lease m) a z steps = leased_end tenant lease m z.0 z.2 z.4 reply (sym z.5.5.1 ∙ e) c
            by memory a z steps = absurd (let f : cat.with_memory ≡ cat.with_reply reply = sym z.1 ∙ e in cc)
            by r a z steps = absurd a

    not_wrong : w.end ≡ cat.with_wrong_key → ⊥
    not_wrong e = at w.walk
      where
        at : cat.Cats image tenant w.steps w.end → ⊥
        at (r, first, tail, are, (is, answers), after) = by r answers after (are ∙ ap (λ q. q ∷ tail) is)
          where
            by : (r : Reply) → Answers (opens image) r → cat.after_open tenant r tail w.end → w.steps ≡ step (opens image) r ∷ tail → ⊥
            by no_image a z steps = open_none tail steps
            by (opened lease m) a z steps = tagged (λ tag. leased_open tenant lease m z.0 z.2 z.4 (sym z.5.5.1 ∙ e) (subst (λ q. HasTag q tenant) (sym (open_fields lease m tail steps)) tag))
            by memory a z steps = let f : cat.with_memory ≡ cat.with_wrong_key = sym z.1 ∙ e in cc
            by r a z steps = a

    text_is : cat.IsRead (λ (told : Option Objects). told) (record { origin = s.objects; start = s.start; log = [] }) image tenant w.steps text → text ≡ take back.fields.raw_len bytes
    text_is read =
        let d = read.stored n tells in
        let same = only_home s.start.view image back.has.home back.fields (first_state s.start) refl may read.home read.manifest read.listed in
        let is : Some d.padded ≡ Some bytes = sym d.denoted ∙ ((λ i. denotation (same.1 i) tenant (bodies n (same.0 i))) ∙ back.denotes) in
        d.cut ∙ (λ i. take (same.1 i).raw_len (same_some d.padded bytes is i))

    ended : (before after : Option (List ℕ)) (o : Outcome) → IsFinish o0 text before after o → IsComplete o → ((o ≡ Done) × Appends before (take back.fields.raw_len bytes) after) ⊎ (o ≡ Memory)
    ended before after o fin c = by w.end refl
      where
        by : (end : cat.Ending) → w.end ≡ end → ((o ≡ Done) × Appends before (take back.fields.raw_len bytes) after) ⊎ (o ≡ Memory)
        by cat.with_bytes e =
            let how : IsWritten before text after o = subst (λ q. IsFinish q text before after o) (w.ends ∙ ap outcome_read e) fin in
            let is : text ≡ take back.fields.raw_len bytes = text_is (subst (λ q. IsReadText q s image tenant w.steps text) e w.writes) in
            subst (λ t. ((o ≡ Done) × Appends before t after) ⊎ (o ≡ Memory)) is (written text before after o how c)
        by (cat.with_reply reply) e =
            let is : o ≡ failure (outcome_of reply) = other text before after (outcome_of reply) o (subst (λ q. IsFinish q text before after o) (w.ends ∙ ap outcome_read e) fin) in
            inr (is ∙ by_reply reply e (subst IsComplete is c))
        by cat.with_wrong_key e = absurd (not_wrong e)
        by cat.with_memory e = let how : IsFinish Memory text before after o = subst (λ q. IsFinish q text before after o) (w.ends ∙ ap outcome_read e) fin in inr how.0

pub read_again : ImagesAreFoundAgain → IsDenotedByTag → ImagesAreReadAgain
read_again again by_tag s n image tenant bytes log before after o begun had tells runs back kept (o0, text, w, fin) c = ended again by_tag s n image tenant bytes log begun had tells runs back kept o0 text w before after o fin c
