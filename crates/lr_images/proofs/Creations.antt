-- the creation of an image from a source
use Rattle.std.proofs.Common.{◌≡◌, inl, inr, length, ℕ, ◌+◌, ◌≤◌, arith, List, [], ◌∷◌, ◌++◌, map, refl, ap, subst, sym, ◌∙◌, append-nil, append_assoc, length-append}
use Rattle.std.specs.Prelude.{Option, Some, None, ◌⊎◌}
use Rattle.std.proofs.lemmas.List.{map-append}
use Rattle.std.proofs.lemmas.Grind.{flat_map-append}
use Rattle.lr_spec.specs.Rose.{Rose}
use Rattle.lr_io.specs.Streams.{Takes, TakesAll}
use Rattle.lr_io.proofs.Streams.{takes_more}
use Rattle.lr_manifest.specs.Manifest.{itself}
use Rattle.lr_depot.specs.declared.call.DepotReply.{DepotReply}
use Rattle.lr_depot.specs.declared.call.DepotReply.TheVariants.{Fault}
use Rattle.lr_depot.specs.Depot.{Seen}
use Rattle.lr_walk.specs.Depot.{seen_reply}
use Rattle.lr_creator.specs.Creation.{Ending, with_root, with_reply, with_memory, with_stop, Input, piece, last, Creates}
use Rattle.lr_creator.specs.Progress.{Progress, Stands, start, beginning}
use Rattle.lr_creator.specs.Seen.{IsSame}
use Rattle.lr_images.specs.declared.created.Created.{Created}
use Rattle.lr_images.specs.declared.created.Created.TheVariants.{Root, Refused, ReadFault, TooLong, OutOfMemory}
use Rattle.lr_images.specs.Drive.{Drives, Ended, IsFaultEnd, IsFaultNeed, IsEarly, IsUnstopped, MayEnd, HasGiven, joined}
use Rattle.lr_images.specs.Created.{IsAnswer, HasRead, IsStoreFault, IsCreation, IsUnderWay}
use Rattle.lr_images.proofs.Calling.{calls_none}

-- ---- pieces

more_pieces : (pieces : List (List ℕ)) (plain : List ℕ) → map piece (pieces ++ plain ∷ []) ≡ map piece pieces ++ piece plain ∷ []
more_pieces pieces plain = map-append piece pieces (plain ∷ [])

more_joined : (pieces : List (List ℕ)) (plain : List ℕ) → joined (pieces ++ plain ∷ []) ≡ joined pieces ++ plain
more_joined pieces plain = flat_map-append itself pieces (plain ∷ []) ∙ ap (λ (l : List ℕ). joined pieces ++ l) (append-nil plain)

more_length : (pieces : List (List ℕ)) (plain : List ℕ) (len : ℕ) → length (joined pieces) ≡ len → length (joined (pieces ++ plain ∷ [])) ≡ len + length plain
more_length pieces plain len e = ap length (more_joined pieces plain) ∙ (length-append (joined pieces) plain ∙ ap (λ n. n + length plain) e)

takes_all_more : (old mid new : Option (List ℕ)) (bytes plain : List ℕ) → Takes old bytes mid → TakesAll mid plain new → TakesAll old (bytes ++ plain) new
takes_all_more old mid new bytes plain first second = λ xs e. let f = first xs e in let s = second f.0 f.2 in (f.1 ∙ ap (λ (ys : List ℕ). bytes ++ ys) s.0, s.1)

pub takes_of_all : (old new : Option (List ℕ)) (bytes : List ℕ) → TakesAll old bytes new → Takes old bytes new
takes_of_all old new bytes all = λ xs e. ([], (all xs e).0 ∙ sym (append-nil bytes), (all xs e).1)

takes_none : (left : Option (List ℕ)) → Takes left [] left
takes_none left = λ xs e. (xs, refl, e)

-- ---- what was read, by the answer

told_fault : (reply : DepotReply) → IsStoreFault (Refused reply) → IsFaultEnd (with_reply (seen_reply reply))
told_fault (Fault k) h = tt
told_fault reply h = absurd h

answer_fault : (created : Created) (end : Ending) → IsAnswer created end → IsStoreFault created → IsFaultEnd end
answer_fault (Root root) end e h = absurd h
answer_fault (Refused reply) end e h = subst IsFaultEnd (sym e) (told_fault reply h)
answer_fault ReadFault end e h = absurd h
answer_fault TooLong end e h = absurd h
answer_fault OutOfMemory end e h = absurd h

early_read : (created : Created) (end : Ending) (left after : Option (List ℕ)) (bytes : List ℕ) → IsAnswer created end → IsEarly end → length bytes ≤ 67108864 → Takes left bytes after → HasRead created left bytes after
early_read (Root root) end left after bytes e h n t = absurd (subst IsEarly e h)
early_read (Refused reply) end left after bytes e h n t = (n, t)
early_read ReadFault end left after bytes e h n t = tt
early_read TooLong end left after bytes e h n t = absurd (subst IsEarly e h)
early_read OutOfMemory end left after bytes e h n t = tt

late_read : (created : Created) (end : Ending) (left after : Option (List ℕ)) (bytes : List ℕ) → IsAnswer created end → IsUnstopped end → length bytes ≤ 67108864 → TakesAll left bytes after → HasRead created left bytes after
late_read (Root root) end left after bytes e h n t = (n, t)
late_read (Refused reply) end left after bytes e h n t = (n, takes_of_all left after bytes t)
late_read ReadFault end left after bytes e h n t = tt
late_read TooLong end left after bytes e h n t = absurd (subst IsUnstopped e h)
late_read OutOfMemory end left after bytes e h n t = tt

-- ---- creations

creation_of : {O : Type 0} (faults : O → ℕ) (base d : Seen O) (p : Progress) (before left : Option (List ℕ)) (created : Created) (end : Ending) (pieces : List (List ℕ)) (given rest : List Input)
    → map piece pieces ++ last ∷ [] ≡ given ++ rest → HasRead created before (joined pieces) left → IsAnswer created end → Ended faults base p given d end
    → IsCreation faults base before p.image p.tenant created d left
creation_of faults base d p before left created end pieces given rest e taken answer h =
    record {
      pieces = pieces;
      taken = taken;
      steps = h.steps;
      end = end;
      walk = subst (λ l. Creates p.image p.tenant l h.steps end) (sym e) (h.done rest);
      answer = answer;
      calls = h.calls;
      cause = λ f. h.cause (answer_fault created end answer f);
    }

-- the source ended before any byte more
pub finish_empty : {O : Type 0} (faults : O → ℕ) (base old d : Seen O) (p : Progress) (before now left : Option (List ℕ)) (len : ℕ) (created : Created) (end : Ending) (plain : List ℕ)
    → plain ≡ [] → len ≤ 67108864 → IsAnswer created end → IsUnstopped end → TakesAll now plain left → (u : IsUnderWay faults base before p len old now) → Ended faults base p (map piece u.pieces ++ last ∷ []) d end
    → IsCreation faults base before p.image p.tenant created d left
finish_empty faults base old d p before now left len created end plain none within answer unstopped all u h =
    let taken : TakesAll before (joined u.pieces) left = subst (λ (l : List ℕ). TakesAll before l left) (ap (λ (l : List ℕ). joined u.pieces ++ l) none ∙ append-nil (joined u.pieces)) (takes_all_more before now left (joined u.pieces) plain u.taken all) in
    creation_of faults base d p before left created end u.pieces (map piece u.pieces ++ last ∷ []) [] (sym (append-nil (map piece u.pieces ++ last ∷ [])))
    (late_read created end before left (joined u.pieces) answer unstopped (omega (arith, u.size, within)) taken) answer h

-- it ended with the piece
pub finish_early : {O : Type 0} (faults : O → ℕ) (base old d : Seen O) (p : Progress) (before now left : Option (List ℕ)) (len : ℕ) (created : Created) (end : Ending) (plain : List ℕ)
    → len + length plain ≤ 67108864 → IsAnswer created end → IsEarly end → Takes now plain left → (u : IsUnderWay faults base before p len old now) → Ended faults base p (map piece u.pieces ++ piece plain ∷ []) d end
    → IsCreation faults base before p.image p.tenant created d left
finish_early faults base old d p before now left len created end plain within answer early took u h =
    let taken : Takes before (joined (u.pieces ++ plain ∷ [])) left = subst (λ (l : List ℕ). Takes before l left) (sym (more_joined u.pieces plain)) (takes_more before now left (joined u.pieces) plain u.taken took) in
    creation_of faults base d p before left created end (u.pieces ++ plain ∷ []) (map piece u.pieces ++ piece plain ∷ []) (last ∷ []) (ap (λ (l : List Input). l ++ last ∷ []) (more_pieces u.pieces plain))
    (early_read created end before left (joined (u.pieces ++ plain ∷ [])) answer early (omega (arith, more_length u.pieces plain len u.size, within)) taken) answer h

-- the piece was the last one
pub finish_whole : {O : Type 0} (faults : O → ℕ) (base old d : Seen O) (p : Progress) (before now left : Option (List ℕ)) (len : ℕ) (created : Created) (end : Ending) (plain : List ℕ)
    → len + length plain ≤ 67108864 → IsAnswer created end → IsUnstopped end → TakesAll now plain left → (u : IsUnderWay faults base before p len old now)
    → Ended faults base p ((map piece u.pieces ++ piece plain ∷ []) ++ last ∷ []) d end
    → IsCreation faults base before p.image p.tenant created d left
finish_whole faults base old d p before now left len created end plain within answer unstopped all u h =
    let taken : TakesAll before (joined (u.pieces ++ plain ∷ [])) left = subst (λ (l : List ℕ). TakesAll before l left) (sym (more_joined u.pieces plain)) (takes_all_more before now left (joined u.pieces) plain u.taken all) in
    creation_of faults base d p before left created end (u.pieces ++ plain ∷ []) ((map piece u.pieces ++ piece plain ∷ []) ++ last ∷ []) []
    (ap (λ (l : List Input). l ++ last ∷ []) (more_pieces u.pieces plain) ∙ sym (append-nil ((map piece u.pieces ++ piece plain ∷ []) ++ last ∷ [])))
    (late_read created end before left (joined (u.pieces ++ plain ∷ [])) answer unstopped (omega (arith, more_length u.pieces plain len u.size, within)) taken) answer h

-- the byte past the limit was read
pub too_long : {O : Type 0} (faults : O → ℕ) (base old d : Seen O) (p : Progress) (before now left : Option (List ℕ)) (len : ℕ) (plain : List ℕ)
    → len + length plain ≡ 67108865 → Takes now plain left → (u : IsUnderWay faults base before p len old now) → Ended faults base p (map piece u.pieces) d with_stop
    → IsCreation faults base before p.image p.tenant TooLong d left
too_long faults base old d p before now left len plain past took u h =
    let taken : Takes before (joined (u.pieces ++ plain ∷ [])) left = subst (λ (l : List ℕ). Takes before l left) (sym (more_joined u.pieces plain)) (takes_more before now left (joined u.pieces) plain u.taken took) in
    creation_of faults base d p before left TooLong with_stop (u.pieces ++ plain ∷ []) (map piece u.pieces) (piece plain ∷ last ∷ [])
    (ap (λ (l : List Input). l ++ last ∷ []) (more_pieces u.pieces plain) ∙ append_assoc (map piece u.pieces) (piece plain ∷ []) (last ∷ []))
    (more_length u.pieces plain len u.size ∙ past, taken) refl h

-- an answer that says nothing of the source
abbrev pub HasStopped : Created → Type 0
HasStopped ReadFault = Unit {0}
HasStopped OutOfMemory = Unit {0}
HasStopped created = ⊥

-- the source failed, or there was no memory for its bytes
pub stopped : {O : Type 0} (faults : O → ℕ) (base old d : Seen O) (p : Progress) (before now left : Option (List ℕ)) (len : ℕ) (created : Created)
    → HasStopped created → (u : IsUnderWay faults base before p len old now) → Ended faults base p (map piece u.pieces) d with_stop
    → IsCreation faults base before p.image p.tenant created d left
stopped faults base old d p before now left len ReadFault s u h = creation_of faults base d p before left ReadFault with_stop u.pieces (map piece u.pieces) (last ∷ []) refl tt refl h
stopped faults base old d p before now left len OutOfMemory s u h = creation_of faults base d p before left OutOfMemory with_stop u.pieces (map piece u.pieces) (last ∷ []) refl tt (inr refl) h
stopped faults base old d p before now left len (Root root) s u h = absurd s
stopped faults base old d p before now left len (Refused reply) s u h = absurd s
stopped faults base old d p before now left len TooLong s u h = absurd s

pub under_way_more : {O : Type 0} (faults : O → ℕ) (base old d : Seen O) (p q : Progress) (before now left : Option (List ℕ)) (len : ℕ) (plain : List ℕ)
    → Takes now plain left → (u : IsUnderWay faults base before p len old now) → Drives faults base q (map piece u.pieces ++ piece plain ∷ []) d
    → IsUnderWay faults base before q (len + length plain) d left
under_way_more faults base old d p q before now left len plain took u h =
    record {
      pieces = u.pieces ++ plain ∷ [];
      size = more_length u.pieces plain len u.size;
      taken = subst (λ (l : List ℕ). Takes before l left) (sym (more_joined u.pieces plain)) (takes_more before now left (joined u.pieces) plain u.taken took);
      drives = subst (λ (l : List Input). Drives faults base q l d) (sym (more_pieces u.pieces plain)) h;
    }

pub creation_same : {O : Type 0} (faults : O → ℕ) (base d : Seen O) (p q : Progress) (before left : Option (List ℕ)) (created : Created) → IsSame p q
    → IsCreation faults base before q.image q.tenant created d left → IsCreation faults base before p.image p.tenant created d left
creation_same faults base d p q before left created same h =
    subst (λ (r : List ℕ × List ℕ). IsCreation faults base before r.0 r.1 created d left) (λ i. (same.0 i, same.1 i)) h

-- ---- the beginning

pub drives_new : {O : Type 0} (faults : O → ℕ) (d : Seen O) (p : Progress) (image tenant : List ℕ) → p ≡ start image tenant → Stands p [] [] → Drives faults d p [] d
drives_new faults d p image tenant e stands = record { steps = []; stands = stands; calls = calls_none faults d; cause = λ f. absurd (subst (λ (q : Progress). IsFaultNeed q.need) e f) }

pub begun_under_way : {O : Type 0} (faults : O → ℕ) (base d : Seen O) (p : Progress) (left : Option (List ℕ)) → Drives faults base p [] d → IsUnderWay faults base left p 0 d left
begun_under_way faults base d p left h = record { pieces = []; size = refl; taken = takes_none left; drives = h }

pub refused_at_first : {O : Type 0} (faults : O → ℕ) (base d : Seen O) (p : Progress) (image tenant : List ℕ) (left : Option (List ℕ)) (created : Created) (end : Ending) → p ≡ start image tenant → IsAnswer created end
    → MayEnd p.need end → Ended faults base p [] d end → IsCreation faults base left image tenant created d left
refused_at_first faults base d p image tenant left created end e answer may h =
    let early : IsEarly end = subst (λ (q : Progress). MayEnd q.need end) e may in
    subst (λ (q : Progress). IsCreation faults base left q.image q.tenant created d left) e
    (creation_of faults base d p left left created end [] [] (last ∷ []) refl (early_read created end left left [] answer early (omega arith) (takes_none left)) answer h)

pub creation_begun : {O : Type 0} (faults : O → ℕ) (base d : Seen O) (p q : Progress) (image tenant : List ℕ) (before left : Option (List ℕ)) (created : Created) → p ≡ start image tenant → IsSame p q
    → IsCreation faults base before q.image q.tenant created d left → IsCreation faults base before image tenant created d left
creation_begun faults base d p q image tenant before left created e same h =
    subst (λ (r : Progress). IsCreation faults base before r.image r.tenant created d left) e (creation_same faults base d p q before left created same h)

pub nil_of : (xs : List ℕ) → length xs ≡ 0 → xs ≡ []
nil_of [] e = refl
nil_of (x ∷ xs) e = absurd (omega (arith, e))

pub begun_given : (p : Progress) (image tenant : List ℕ) → p ≡ start image tenant → HasGiven p.need 0
begun_given p image tenant e = subst (λ (q : Progress). HasGiven q.need 0) (sym e) refl

some_of : (x y : Created) → Some x ≡ Some y → x ≡ y
some_of x y e = cc

pub never_read : (created : Created) (P : Type 0) → (created ≡ ReadFault → ⊥) → Some created ≡ Some ReadFault → P
never_read created P never e = absurd (never (some_of created ReadFault e))

-- a piece of a vector, by the slice that is given
pub whole_more : {O : Type 0} (faults : O → ℕ) (base old d : Seen O) (p q : Progress) (before now left : Option (List ℕ)) (len : ℕ) (items plain : List ℕ)
    → plain ≡ items → length items ≡ 524288 → Takes now items left → (u : IsUnderWay faults base before p len old now) → Drives faults base q (map piece u.pieces ++ piece plain ∷ []) d
    → IsUnderWay faults base before q (len + 524288) d left
whole_more faults base old d p q before now left len items plain same size took u h =
    subst (λ n. IsUnderWay faults base before q (len + n) d left) (ap length same ∙ size)
    (under_way_more faults base old d p q before now left len plain (subst (λ (l : List ℕ). Takes now l left) (sym same) took) u h)

pub whole_early : {O : Type 0} (faults : O → ℕ) (base old d : Seen O) (p : Progress) (before now left : Option (List ℕ)) (len : ℕ) (created : Created) (end : Ending) (items plain : List ℕ)
    → plain ≡ items → length items ≡ 524288 → len + 524288 ≤ 67108864 → Takes now items left → IsAnswer created end → IsEarly end → (u : IsUnderWay faults base before p len old now)
    → Ended faults base p (map piece u.pieces ++ piece plain ∷ []) d end → IsCreation faults base before p.image p.tenant created d left
whole_early faults base old d p before now left len created end items plain same size within took answer early u h =
    let long : length plain ≡ 524288 = ap length same ∙ size in
    finish_early faults base old d p before now left len created end plain (omega (arith, long, within)) answer early (subst (λ (l : List ℕ). Takes now l left) (sym same) took) u h

pub last_piece : (now left : Option (List ℕ)) (items plain : List ℕ) → plain ≡ items → TakesAll now items left → TakesAll now plain left
last_piece now left items plain same all = subst (λ (l : List ℕ). TakesAll now l left) (sym same) all

pub under_way_at : {O : Type 0} (faults : O → ℕ) (base d : Seen O) (p : Progress) (before now : Option (List ℕ)) (len raw : ℕ) → raw ≡ len → IsUnderWay faults base before p len d now → IsUnderWay faults base before p raw d now
under_way_at faults base d p before now len raw e u = subst (λ n. IsUnderWay faults base before p n d now) (sym e) u
