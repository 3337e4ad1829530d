use Rattle.lr_roots.proofs.Indexes.{leaves_other, other_expired, other_deleted, other_chunk}
use Rattle.lr_roots.proofs.index.Index.leave.Goals as goal

pub returns-in-Root : goal.returns-in-Root
returns-in-Root c = rw c.in-Root.is c.leave_root.ensures

pub returns-in-Manifest : goal.returns-in-Manifest
returns-in-Manifest c = rw c.in-Manifest.is c.leave_naming.ensures

pub returns-in-Withdrawn : goal.returns-in-Withdrawn
returns-in-Withdrawn c = rw c.in-Withdrawn.is c.leave_naming-in-Withdrawn.ensures

pub returns-in-Expired : goal.returns-in-Expired
returns-in-Expired c = rw c.in-Expired.is (λ v h. leaves_other v _ _ (other_expired _) h)

pub returns-in-Deleted : goal.returns-in-Deleted
returns-in-Deleted c = rw c.in-Deleted.is (λ v h. leaves_other v _ _ (other_deleted _) h)

pub returns-in-Chunk : goal.returns-in-Chunk
returns-in-Chunk c = rw c.in-Chunk.is (λ v h. leaves_other v _ _ (other_chunk _ _) h)
