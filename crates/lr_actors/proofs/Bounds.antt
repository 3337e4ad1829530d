-- the jobs of the depot come nearer to their ends
use Rattle.std.proofs.Common.{◌≡◌, inl, inr, ℕ, zero, suc, ◌+◌, ◌-◌, ◌*◌, ◌≤◌, ◌<◌, List, length, refl, sym, subst, arith}
use Rattle.lr_manifest.specs.Manifest.{ManifestFields, IsManifest}
use Rattle.lr_walk.specs.Depot.{Reply, moving, copied, kept, moved, memory, began, made}
use Rattle.lr_migrator.specs.Progress as migrations
use Rattle.lr_creator.specs.Progress as creations
use Rattle.lr_creator.specs.Progress.{is_wanting, advanced}
use Rattle.lr_creator.specs.Seen.{Gave, LeftShort, Finished, FinishedAt}
use Rattle.lr_actors.specs.Bounds.{moves_left, moves_ahead, MovesNear, HasFewChunks, chunks, puts_left}

copying_on_left : (session index n : ℕ) → moves_left (migrations.copying_on session index n) ≤ 2 * n + 2
copying_on_left session index zero = omega arith
copying_on_left session index (suc left) = omega arith

moves_near : (image : List ℕ) (need : migrations.Need) (reply : Reply) → migrations.AnswersAsked (migrations.asked image need) reply → MovesNear need reply
moves_near image migrations.beginning (moving session from to fields) a = copying_on_left session 0 (length fields.names)
moves_near image migrations.beginning memory a = refl
moves_near image migrations.beginning reply a = refl
moves_near image (migrations.copying session index left) (copied name) a = omega arith
moves_near image (migrations.copying session index left) memory a = omega arith
moves_near image (migrations.copying session index left) reply a = omega arith
moves_near image (migrations.putting session index left name) kept a = let h = copying_on_left session (suc index) left in omega arith
moves_near image (migrations.putting session index left name) memory a = omega arith
moves_near image (migrations.putting session index left name) reply a = omega arith
moves_near image (migrations.finishing session) (moved from to) a = omega arith
moves_near image (migrations.finishing session) memory a = omega arith
moves_near image (migrations.finishing session) reply a = omega arith
moves_near image (migrations.leaving session end) reply a = omega arith
moves_near image (migrations.ended end) reply a = absurd a

pub migrations_near : (p : migrations.Progress) (reply : Reply) → migrations.Admits p reply → MovesNear p.need reply
migrations_near p reply a = moves_near p.image p.need reply a

-- ---- migrations, of at most 20,480 chunks

pub few_chunks : (m : ManifestFields) → IsManifest m → length m.names ≤ 20480
few_chunks m is = omega (arith, is.count, is.raw_len)

copying_on_ahead : (session index n : ℕ) → moves_ahead (migrations.copying_on session index n) ≤ 2 * n + 2
copying_on_ahead session index zero = omega arith
copying_on_ahead session index (suc left) = omega arith

ahead_near : (image : List ℕ) (need : migrations.Need) (reply : Reply) → migrations.AnswersAsked (migrations.asked image need) reply → HasFewChunks reply
    → moves_ahead (migrations.advanced need reply) + 1 ≤ moves_ahead need
ahead_near image migrations.beginning (moving session from to fields) a few = let h = copying_on_ahead session 0 (length fields.names) in omega arith
ahead_near image migrations.beginning memory a few = omega arith
ahead_near image migrations.beginning reply a few = omega arith
ahead_near image (migrations.copying session index left) (copied name) a few = omega arith
ahead_near image (migrations.copying session index left) memory a few = omega arith
ahead_near image (migrations.copying session index left) reply a few = omega arith
ahead_near image (migrations.putting session index left name) kept a few = let h = copying_on_ahead session (suc index) left in omega arith
ahead_near image (migrations.putting session index left name) memory a few = omega arith
ahead_near image (migrations.putting session index left name) reply a few = omega arith
ahead_near image (migrations.finishing session) (moved from to) a few = omega arith
ahead_near image (migrations.finishing session) memory a few = omega arith
ahead_near image (migrations.finishing session) reply a few = omega arith
ahead_near image (migrations.leaving session end) reply a few = omega arith
ahead_near image (migrations.ended end) reply a few = absurd a

pub migration_nears : (p : migrations.Progress) (new : migrations.Need) (reply : Reply) → migrations.Admits p reply → HasFewChunks reply → new ≡ migrations.advanced p.need reply
    → moves_ahead new + 1 ≤ moves_ahead p.need
migration_nears p new reply a few e = subst (λ (q : migrations.Need). moves_ahead q + 1 ≤ moves_ahead p.need) (sym e) (ahead_near p.image p.need reply a few)

-- ---- creations

pub puts_near : (need : creations.Need) (reply : Reply) (n : ℕ) → creations.AnswersAsked (creations.asked need) reply → puts_left (advanced need reply) n + 1 ≤ puts_left need n
puts_near (creations.beginning image) (began session root salt number) n a = omega arith
puts_near (creations.beginning image) memory n a = omega arith
puts_near (creations.beginning image) reply n a = omega arith
puts_near (creations.wanting place parts) reply n a = absurd a
puts_near (creations.putting place parts name) kept n a = omega arith
puts_near (creations.putting place parts name) memory n a = omega arith
puts_near (creations.putting place parts name) reply n a = omega arith
puts_near (creations.finishing place fields) (made root) n a = omega arith
puts_near (creations.finishing place fields) memory n a = omega arith
puts_near (creations.finishing place fields) reply n a = omega arith
puts_near (creations.leaving session end) reply n a = omega arith
puts_near (creations.ended end) reply n a = absurd a

-- a piece that is given is a chunk less
chunk_less : (n m k : ℕ) → 1 ≤ k → k ≤ 524288 → m + k ≡ n → (1 ≤ m → k ≡ 524288) → chunks m + 1 ≤ chunks n
chunk_less n zero k some most e whole = omega arith
chunk_less n (suc m) k some most e whole = let w = whole (omega arith) in omega arith

gave_left : (need new : creations.Need) (plain : List ℕ) (n m : ℕ) → Gave need plain new → m + 1 ≤ n → puts_left new m ≤ puts_left need n
gave_left (creations.wanting place parts) new plain n m gave h = subst (λ (q : creations.Need). puts_left q m ≤ n + 2) (sym gave.2) (omega arith)
gave_left need new plain n m gave h = absurd gave

-- with one piece given
pub piece_left : (need new : creations.Need) (plain : List ℕ) (whole given to : ℕ) → Gave need plain new → given < to → to ≤ given + 524288 → to ≤ whole → (to < whole → to ≡ given + 524288)
    → puts_left new (chunks (whole - to)) ≤ puts_left need (chunks (whole - given))
piece_left need new plain whole given to gave less most within chunk =
    gave_left need new plain (chunks (whole - given)) (chunks (whole - to)) gave
    (chunk_less (whole - given) (whole - to) (to - given) (omega arith) (omega arith) (omega arith) (λ more. let e = chunk (omega arith) in omega arith))

pub short_left : (need new : creations.Need) (n : ℕ) → LeftShort need new → puts_left new n ≤ puts_left need n
short_left (creations.wanting place parts) new n e = subst (λ (q : creations.Need). puts_left q n ≤ n + 2) (sym e) (omega arith)
short_left need new n e = absurd e

finished_left : (tenant : List ℕ) (need new : creations.Need) (n : ℕ) → FinishedAt tenant need new → puts_left new n ≤ puts_left need n
finished_left tenant (creations.wanting place parts) new n (inl e) = subst (λ (q : creations.Need). puts_left q n ≤ n + 2) (sym e) (omega arith)
finished_left tenant (creations.wanting place parts) new n (inr e) = subst (λ (q : creations.Need). puts_left q n ≤ n + 2) (sym e) (omega arith)
finished_left tenant need new n f = absurd f

pub last_left : (old : creations.Progress) (new : creations.Need) (n : ℕ) → Finished old new → puts_left new n ≤ puts_left old.need n
last_left old new n f = finished_left old.tenant old.need new n f
