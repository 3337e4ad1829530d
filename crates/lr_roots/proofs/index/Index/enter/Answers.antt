use Rattle.lr_roots.proofs.Indexes.{enters_other, other_expired, other_deleted, other_chunk}
use Rattle.lr_roots.proofs.index.Index.enter.Goals as goal

pub returns-in-Root-clause-ok : goal.returns-in-Root-clause-ok
returns-in-Root-clause-ok c = rw c.in-Root.is c.enter_root.ensures.ok

pub returns-in-Manifest-clause-ok : goal.returns-in-Manifest-clause-ok
returns-in-Manifest-clause-ok c = rw c.in-Manifest.is c.enter_naming.ensures.ok

pub returns-in-Withdrawn-clause-ok : goal.returns-in-Withdrawn-clause-ok
returns-in-Withdrawn-clause-ok c = rw c.in-Withdrawn.is c.enter_naming-in-Withdrawn.ensures.ok

pub returns-in-Expired-clause-ok : goal.returns-in-Expired-clause-ok
returns-in-Expired-clause-ok c = rw c.in-Expired.is (λ v held h. enters_other v _ _ held (other_expired _) h)

pub returns-in-Deleted-clause-ok : goal.returns-in-Deleted-clause-ok
returns-in-Deleted-clause-ok c = rw c.in-Deleted.is (λ v held h. enters_other v _ _ held (other_deleted _) h)

pub returns-in-Chunk-clause-ok : goal.returns-in-Chunk-clause-ok
returns-in-Chunk-clause-ok c = rw c.in-Chunk.is (λ v held h. enters_other v _ _ held (other_chunk _ _) h)
