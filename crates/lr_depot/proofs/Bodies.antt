-- Chunks and manifests in the store, as the calls that asked for them tell.
use Rattle.std.proofs.Common.{◌≡◌, ℕ, List, length, Option, Some, sym, ap, subst, ◌∙◌, inl}
use Rattle.std.specs.Arc.{arc_value}
use Rattle.std.specs.declared.sync.Arc.{Arc}
use Rattle.std.specs.declared.alloc.Global.{Global}
use Rattle.std.specs.FinMap as map
use Rattle.sha2.specs.Sha256.{sha256}
use Rattle.lr_origin.specs.Objects.{Objects}
use Rattle.lr_origin.specs.Text.{key_text}
use Rattle.lr_origin.specs.declared.key.KeyKind.{KeyKind}
use Rattle.lr_origin.specs.declared.key.KeyKind.TheVariants.{Chunk, Manifest}
use Rattle.lr_manifest.specs.Manifest.{ManifestFields, spelling}
use Rattle.lr_roots.specs.View.{Has}
use Rattle.lr_roots.specs.Names.{number_of}
use Rattle.lr_roots.specs.Sound.{maker_of}
use Rattle.lr_rules.specs.State.{Job, State, Creates, Holds, target}
use Rattle.lr_depot.specs.declared.call.DepotCall.TheVariants.{Fetch, PutChunk, PutManifest, CopyRead}
use Rattle.lr_depot.specs.declared.call.DepotReply.{DepotReply}
use Rattle.lr_depot.specs.declared.call.DepotReply.TheVariants.{Fetched, Copied, Kept, Made}
use Rattle.lr_depot.specs.Machine.{IsFetch, IsCopy}
use Rattle.lr_depot.specs.declared.put.PutEnd.TheVariants.{Kept as Done}
use Rattle.lr_depot.specs.Store.{StoreStep, IsChunkBody, Puts}

pub fetched_store : (s : State) (c lease index : ℕ) (handle : Arc (List ℕ) Global) (reply : DepotReply) (k : KeyKind) (r : ℕ) (name body : List ℕ) (m : Objects) (n : Option Objects)
    → reply ≡ Fetched handle → IsFetch s lease index k → k ≡ Chunk r name → length body ≡ 524288 → sha256 body ≡ name → arc_value handle ≡ body
    → map.get m (key_text k) ≡ Some body → n ≡ Some m → StoreStep s c (Fetch lease index) reply m n
fetched_store s c lease index handle reply k r name body m n is fetch chunk long digest same got left =
    subst (λ a. StoreStep s c (Fetch lease index) a m n) (sym is) (
      left,
      (
        k,
        fetch,
        subst (λ b. IsChunkBody k b) (sym same) (subst (λ k. IsChunkBody k body) (sym chunk) (long, digest)),
        got ∙ ap Some (sym same),
      ),
    )

pub copied_store : (s : State) (c session index : ℕ) (handle : Arc (List ℕ) Global) (reply : DepotReply) (k : KeyKind) (r : ℕ) (name body : List ℕ) (m : Objects) (n : Option Objects)
    → reply ≡ Copied handle → IsCopy s session c index k → k ≡ Chunk r name → length body ≡ 524288 → sha256 body ≡ name → arc_value handle ≡ body
    → map.get m (key_text k) ≡ Some body → n ≡ Some m → StoreStep s c (CopyRead session index) reply m n
copied_store s c session index handle reply k r name body m n is copy chunk long digest same got left =
    subst (λ a. StoreStep s c (CopyRead session index) a m n) (sym is) (
      left,
      (
        k,
        copy,
        subst (λ b. IsChunkBody k b) (sym same) (subst (λ k. IsChunkBody k body) (sym chunk) (long, digest)),
        got ∙ ap Some (sym same),
      ),
    )

-- a chunk that the view has
pub kept_there : (s : State) (c session : ℕ) (chunk : Arc (List ℕ) Global) (reply : DepotReply) (j : Job) (k : KeyKind) (name : List ℕ) (m : Objects) (n : Option Objects)
    → reply ≡ Kept → Holds s session c j → k ≡ Chunk (target j) name → name ≡ sha256 (arc_value chunk) → length (arc_value chunk) ≡ 524288
    → Has s.known.view k → n ≡ Some m → StoreStep s c (PutChunk session chunk) reply m n
kept_there s c session chunk reply j k name m n is holds key named long has left =
    subst (λ a. StoreStep s c (PutChunk session chunk) a m n) (sym is) (
      k,
      (j, holds, key ∙ ap (Chunk (target j)) named),
      subst (λ k. IsChunkBody k (arc_value chunk)) (sym key) (long, sym named),
      inl (has, left),
    )

-- the manifest of a creation
pub made_store : (s : State) (c session : ℕ) (p : Arc ManifestFields Global) (reply : DepotReply) (image : List ℕ) (r d : ℕ) (k : KeyKind) (body : List ℕ) (m : Objects) (n : Option Objects)
    → reply ≡ Made r → Holds s session c (Creates image r d) → maker_of (arc_value p) ≡ r → number_of (arc_value p) ≡ d → k ≡ Manifest r image → body ≡ spelling (arc_value p)
    → Puts s k body Done m n → StoreStep s c (PutManifest session p) reply m n
made_store s c session p reply image r d k body m n is holds root number key spelled puts =
    subst (λ a. StoreStep s c (PutManifest session p) a m n) (sym is) (
      image,
      record { number = d; session = holds; root = root; drawn = number },
      subst (λ k. Puts s k (spelling (arc_value p)) Done m n) key (subst (λ b. Puts s k b Done m n) spelled puts),
    )
