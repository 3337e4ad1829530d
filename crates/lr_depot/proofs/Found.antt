-- What a put that was found there leaves of leases, sessions and numbers.
use Rattle.std.proofs.Common.{◌≡◌, ℕ, Option, Some, None, refl, sym, ap, ◌∙◌}
use Rattle.std.specs.FinMap as map
use Rattle.lr_origin.specs.declared.key.KeyKind.{KeyKind}
use Rattle.lr_origin.specs.declared.key.KeyKind.TheVariants.{Root, Expired, Deleted, Chunk, Manifest, Withdrawn}
use Rattle.lr_roots.specs.View.{Held, salt, manifest, bare}
use Rattle.lr_rules.specs.State.{Session, State}
use Rattle.lr_rules.specs.Calls.{ended, settled_there}
use Rattle.lr_rules.proofs.Keys.{gone_other_n}
use Rattle.lr_rules.proofs.Manifests.{ended_fewer}

-- all but the sessions
pub found_rest : (s : State) (k : KeyKind) (x : Held) → (settled_there s k x).desk ≡ record s.desk { sessions = (settled_there s k x).desk.sessions }
found_rest s (Manifest r image) (manifest m) = refl
found_rest s (Manifest r image) (salt b) = refl
found_rest s (Manifest r image) bare = refl
found_rest s (Root r) x = refl
found_rest s (Expired r) x = refl
found_rest s (Deleted r) x = refl
found_rest s (Chunk r n) x = refl
found_rest s (Withdrawn n) x = refl

-- the sessions that are left were there
pub found_sessions : (s : State) (k : KeyKind) (x : Held) (n : ℕ) (j : Session) → map.get (settled_there s k x).desk.sessions n ≡ Some j → map.get s.desk.sessions n ≡ Some j
found_sessions s (Manifest r image) (manifest m) n j e = ended_fewer s.desk.sessions (map.get s.desk.makers (Manifest r image)) n j e
found_sessions s (Manifest r image) (salt b) n j e = e
found_sessions s (Manifest r image) bare n j e = e
found_sessions s (Root r) x n j e = e
found_sessions s (Expired r) x n j e = e
found_sessions s (Deleted r) x n j e = e
found_sessions s (Chunk r i) x n j e = e
found_sessions s (Withdrawn i) x n j e = e

-- a session that made no put that is in doubt stays
pub found_stays : (s : State) (k : KeyKind) (x : Held) (n : ℕ) (j : Session) → map.get s.desk.sessions n ≡ Some j → (map.get s.desk.makers k ≡ Some n → ⊥) → map.get (settled_there s k x).desk.sessions n ≡ Some j
found_stays s (Manifest r image) (manifest m) n j there unmade = by (map.get s.desk.makers (Manifest r image)) refl
  where
    by : (o : Option ℕ) → map.get s.desk.makers (Manifest r image) ≡ o → map.get (ended s.desk.sessions o) n ≡ Some j
    by None e = there
    by (Some z) e = gone_other_n s.desk.sessions z n (λ same. unmade (e ∙ ap Some (sym same))) ∙ there
found_stays s (Manifest r image) (salt b) n j there unmade = there
found_stays s (Manifest r image) bare n j there unmade = there
found_stays s (Root r) x n j there unmade = there
found_stays s (Expired r) x n j there unmade = there
found_stays s (Deleted r) x n j there unmade = there
found_stays s (Chunk r i) x n j there unmade = there
found_stays s (Withdrawn i) x n j there unmade = there
