-- what a command over images that was done left or wrote
use Rattle.std.proofs.Common.{◌≡◌, ℕ, List, [], ◌∷◌, ◌++◌, map, Option, refl, subst, sym, ◌∙◌}
use Rattle.lr_io.specs.Streams.{Appends}
use Rattle.lr_origin.specs.Objects.{Objects}
use Rattle.lr_opening.specs.Store.{HasChunks}
use Rattle.lr_depot.specs.Machine.{LogEntry}
use Rattle.lr_depot.specs.Depot.{LedTo, state}
use Rattle.lr_walk.specs.Depot.{Step, Reply, memory, seen_reply}
use Rattle.lr_creator.specs.Creation.{Ending, with_root, piece, last, Creates}
use Rattle.lr_images.specs.declared.created.Created.{Created}
use Rattle.lr_images.specs.declared.created.Created.TheVariants as by
use Rattle.lr_images.specs.Drive.{joined}
use Rattle.lr_images.specs.Created.{IsAnswer, HasRead}
use Rattle.lr_images.specs.Made.{CreationsAreMade}
use Rattle.lr_images.specs.Cat as cat
use Rattle.lr_desk.specs.declared.outcome.Outcome.{Outcome}
use Rattle.lr_desk.specs.declared.outcome.Outcome.TheVariants.{Done, Usage, ReadFault, WriteFault, OriginFault, Memory, Refused, Foreign, Spoiled, TooMany}
use Rattle.lr_desk.specs.Ends.{outcome_of, failure, outcome_made, text_made, outcome_read, Setting, IsReadText, Made, WasRead, IsFinish}
use Rattle.lr_desk.specs.Made.{LeavesImage, CreationsLeaveImages, WritesImage, ReadingsWriteImages}

finish_done : (o : Outcome) (text : List ℕ) (before after : Option (List ℕ)) → IsFinish o text before after Done → (o ≡ Done) × Appends before text after
finish_done Done text before after f = (refl, f)
finish_done o text before after f = absurd (let e = f.0 in cc)

failure_done : (r : Reply) → failure (outcome_of r) ≡ Done → ⊥
failure_done memory e = cc
failure_done r e = cc

done_root : (c : Created) → outcome_made c ≡ Done → (root : ℕ) × (c ≡ by.Root root)
done_root (by.Root root) e = (root, refl)
done_root (by.Refused reply) e = absurd (failure_done (seen_reply reply) e)
done_root by.ReadFault e = absurd (cc)
done_root by.TooLong e = absurd (cc)
done_root by.OutOfMemory e = absurd (cc)

done_bytes : (end : cat.Ending) → outcome_read end ≡ Done → end ≡ cat.with_bytes
done_bytes cat.with_bytes e = refl
done_bytes (cat.with_reply r) e = absurd (failure_done r e)
done_bytes cat.with_wrong_key e = absurd (cc)
done_bytes cat.with_memory e = absurd (cc)

pub creations_leave : CreationsAreMade → CreationsLeaveImages
creations_leave law s m n image tenant log before after led chunks ran =
    let w = ran.2 in
    let f = finish_done ran.0 ran.1 before after ran.3 in
    let root = done_root w.created (sym w.ends ∙ f.0) in
    let end : w.end ≡ with_root root.0 = subst (λ q. IsAnswer q w.end) root.1 w.answer in
    record {
      root = root.0;
      wrote = subst (λ t. Appends before t after) (subst (λ q. ran.1 ≡ text_made q) root.1 w.writes) f.1;
      pieces = w.pieces;
      taken = (subst (λ q. HasRead q s.source (joined w.pieces) s.left) root.1 w.taken).1;
      steps = w.steps;
      made = law s.start m n [] log image tenant w.pieces w.steps root.0 led chunks w.goes_on (subst (λ e. Creates image tenant (map piece w.pieces ++ last ∷ []) w.steps e) end w.walk);
    }

pub readings_write : ReadingsWriteImages
readings_write s image tenant log before after ran =
    let w = ran.2 in
    let f = finish_done ran.0 ran.1 before after ran.3 in
    record {
      bytes = ran.1;
      wrote = f.1;
      steps = w.steps;
      read = subst (λ e. IsReadText e s image tenant w.steps ran.1) (done_bytes w.end (sym w.ends ∙ f.0)) w.writes;
    }
