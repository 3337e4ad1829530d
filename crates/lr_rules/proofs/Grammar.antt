-- The keys that the depot puts, and those in doubt, are of the grammar, and what is kept is of their kind.
use Rattle.std.proofs.Common.{◌≡◌, ℕ, List, Some}
use Rattle.std.specs.FinMap as fin
use Rattle.lr_manifest.specs.Manifest.{ManifestFields}
use Rattle.lr_text.specs.Words.{IsKey}
use Rattle.lr_origin.specs.Text.{IsRoot, IsKind}
use Rattle.lr_origin.specs.declared.key.KeyKind.{KeyKind}
use Rattle.lr_origin.specs.declared.key.KeyKind.TheVariants.{Root, Expired, Deleted, Chunk, Manifest, Withdrawn}
use Rattle.lr_roots.specs.View.{Held, salt, manifest, bare, Has, Fits}
use Rattle.lr_roots.specs.Sound.{Suits}
use Rattle.lr_rules.specs.State.{Job, Creates, Moves, State, Holds, target}
use Rattle.lr_rules.specs.Safe.{Works, IsSafe}
use Rattle.lr_rules.proofs.Outcomes.{is_some, view_settles, one_settles}
use Rattle.lr_rules.proofs.Sound.{there}
use Rattle.lr_rules.proofs.Calls.{all_sound, view_good}
use Rattle.lr_rules.proofs.Manifests.{doubt_suits}
use Rattle.lr_rules.proofs.Serving.{target_serves}

pub suits_fits : (k : KeyKind) (x : Held) → Suits k x → Fits k x
suits_fits (Root r) (salt b) f = tt
suits_fits (Root r) (manifest m) f = absurd f
suits_fits (Root r) bare f = absurd f
suits_fits (Expired r) (salt b) f = absurd f
suits_fits (Expired r) (manifest m) f = absurd f
suits_fits (Expired r) bare f = tt
suits_fits (Deleted r) (salt b) f = absurd f
suits_fits (Deleted r) (manifest m) f = absurd f
suits_fits (Deleted r) bare f = tt
suits_fits (Chunk r n) (salt b) f = absurd f
suits_fits (Chunk r n) (manifest m) f = absurd f
suits_fits (Chunk r n) bare f = tt
suits_fits (Manifest r i) (salt b) f = absurd f
suits_fits (Manifest r i) (manifest m) f = tt
suits_fits (Manifest r i) bare f = absurd f
suits_fits (Withdrawn i) (salt b) f = absurd f
suits_fits (Withdrawn i) (manifest m) f = absurd f
suits_fits (Withdrawn i) bare f = tt

module _ (s : State) (h : IsSafe s) where
  pub doubt_kind : (k : KeyKind) (x : Held) → fin.get s.known.doubts k ≡ Some x → IsKind k
  doubt_kind k x here = (all_sound s h _ (one_settles s.known k x h.agrees here)).keys k (there s.known.view k x)

  pub doubt_fits : (k : KeyKind) (x : Held) → fin.get s.known.doubts k ≡ Some x → Fits k x
  doubt_fits k x here = suits_fits k x (doubt_suits s h k x here)

  -- a root that is there is within its limits
  pub root_kind : (r : ℕ) → Has s.known.view (Root r) → IsRoot r
  root_kind r has = (view_good s h).sound.keys (Root r) has

  -- an image that has a manifest is well named
  pub withdrawn_kind : (image : List ℕ) (q : ℕ) → Has s.known.view (Manifest q image) → IsKind (Withdrawn image)
  withdrawn_kind image q has = let k : IsKind (Manifest q image) = (view_good s h).sound.keys (Manifest q image) has in k.1

  module _ (n c : ℕ) where
    target_kind : (j : Job) → Holds s n c j → IsRoot (target j)
    target_kind j holds = root_kind (target j) (target_serves s h n c j holds s.known.view (view_settles s.known h.agrees)).0

    pub chunk_kind : (j : Job) (name : List ℕ) → Holds s n c j → IsKey name → IsKind (Chunk (target j) name)
    chunk_kind j name holds key = (target_kind j holds, key)

    pub creation_kind : (image : List ℕ) (r d : ℕ) → Holds s n c (Creates image r d) → IsKind (Manifest r image)
    creation_kind image r d holds = (target_kind (Creates image r d) holds, h.named n c image r d holds)

    pub move_kind : (image : List ℕ) (from to : ℕ) (m : ManifestFields) → Holds s n c (Moves image from to m) → IsKind (Manifest to image)
    move_kind image from to m holds =
        let w : Works s.known.view (Moves image from to m) = (view_good s h).works n _ holds in
        (target_kind (Moves image from to m) holds, withdrawn_kind image from (is_some _ (manifest m) w.2))
