-- What the calls of leases and sessions find: homes, manifests and chunks, in the view and in each way out.
use Rattle.std.proofs.Common.{◌≡◌, ℕ, List, Option, Some, None, IsSome, refl, sym, ap, subst, ◌∙◌}
use Rattle.std.specs.FinMap as fin
use Rattle.lr_manifest.specs.Manifest.{ManifestFields}
use Rattle.lr_origin.specs.declared.key.KeyKind.TheVariants.{Deleted, Chunk, Manifest, Withdrawn}
use Rattle.lr_roots.specs.View.{View, Held, manifest, Has, Lacks}
use Rattle.lr_roots.specs.Roots.{IsHome, IsHomed, IsComplete}
use Rattle.lr_roots.specs.Sound.{IsSound}
use Rattle.lr_rules.specs.Known.{Settles, Serves}
use Rattle.lr_rules.specs.State.{Job, Creates, Moves, State, Holds, target}
use Rattle.lr_rules.specs.Safe.{Works, IsLeased, IsSafe}
use Rattle.lr_rules.proofs.Facts.{whole_there, chunk_certain}
use Rattle.lr_rules.proofs.Calls.{view_good}

-- under a home of a lease's image stands the lease's manifest, with its chunks
lease_there : (v : View) (image : List ℕ) (m : ManifestFields) → IsSound v → IsLeased v image m → (r : ℕ) → IsHome v image r → IsComplete v r m × (fin.get v (Manifest r image) ≡ Some (manifest m))
lease_there v image m sound leased r home = let e : fin.get v (Manifest r image) ≡ Some (manifest m) = by (fin.get v (Manifest r image)) refl home.listed in (sound.complete image r m home.live e, e)
  where
    by : (o : Option Held) → fin.get v (Manifest r image) ≡ o → IsSome o → fin.get v (Manifest r image) ≡ Some (manifest m)
    by None f some = absurd cc
    by (Some y) f some = f ∙ ap Some (leased.1 r y f)

module _ (s : State) (h : IsSafe s) where
  -- an image that isn't withdrawn has a home that serves, where a root has a manifest of it
  pub listed_home : (image : List ℕ) (q : ℕ) → Has s.known.view (Manifest q image) → Lacks s.known.view (Withdrawn image) → IsHomed s.known.view image
  listed_home image q = (view_good s h).sound.homed image q

  -- leases
  module _ (n : ℕ) (image : List ℕ) (m : ManifestFields) (lease : fin.get s.desk.leases n ≡ Some (image, m)) where
    pub leased_home : IsHomed s.known.view image
    leased_home = ((view_good s h).leased n image m lease).0

    pub leased_chunks : (r : ℕ) → IsHome s.known.view image r → IsComplete s.known.view r m × (fin.get s.known.view (Manifest r image) ≡ Some (manifest m))
    leased_chunks r home = lease_there s.known.view image m (view_good s h).sound ((view_good s h).leased n image m lease) r home

    -- the home that the view tells has the chunks in each way out
    pub leased_there : (v : View) → Settles s.known v → (r : ℕ) → IsHome s.known.view image r → IsComplete v r m
    leased_there v t r home = whole_there s.known h.agrees v t r m home.live.1 (leased_chunks r home).0

  -- a chunk that the view has under a root that isn't deleted is there in each way out
  pub chunk_there : (v : View) → Settles s.known v → (r : ℕ) (name : List ℕ) → Has s.known.view (Chunk r name) → Lacks s.known.view (Deleted r) → Has v (Chunk r name)
  chunk_there v t r name has live = subst IsSome (sym (t.known (Chunk r name) (chunk_certain s.known h.agrees r name has live))) has

  -- sessions
  module _ (n c : ℕ) where
    pub creation_serves : (image : List ℕ) (r d : ℕ) → Holds s n c (Creates image r d) → Serves s.known.view r × ((q : ℕ) → Has s.known.view (Manifest q image) → q ≡ r)
    creation_serves image r d holds = (view_good s h).works n _ holds

    pub move_serves : (image : List ℕ) (from to : ℕ) (m : ManifestFields) → Holds s n c (Moves image from to m) → Works s.known.view (Moves image from to m)
    move_serves image from to m holds = (view_good s h).works n _ holds

    -- the root into which a session puts serves in each way out
    pub target_serves : (j : Job) → Holds s n c j → (v : View) → Settles s.known v → Serves v (target j)
    target_serves j holds v t = by j ((h.good v t).works n _ holds)
      where
        by : (j : Job) → Works v j → Serves v (target j)
        by (Creates image r d) w = w.0
        by (Moves image from to m) w = w.1
