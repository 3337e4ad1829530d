-- Reading an image back: the walk of its calls, and what is read.
use Rattle.std.specs.Prelude.{◌≡◌, ◌⊎◌, ◌+◌, ◌++◌, ℕ, zero, suc, List, [], ◌∷◌, length, take, Option, Some, None, Result, IfOk, ⊤}
use Rattle.std.specs.declared.result.Result.TheVariants.{Ok, Err}
use Rattle.std.specs.List.{slice_get}
use Rattle.std.specs.FinMap as map
use Rattle.sha2.specs.Sha256.{sha256}
use Rattle.lr_spec.specs.Told.{Told}
use Rattle.lr_manifest.specs.declared.name.Name.{Name}
use Rattle.lr_manifest.specs.Manifest.{ManifestFields}
use Rattle.lr_convergent.specs.Sealed.{chunk_text}
use Rattle.lr_seal.specs.Table.{HasTag, key_list}
use Rattle.lr_seal.specs.Denotation.{denotation}
use Rattle.lr_origin.specs.Objects.{Objects}
use Rattle.lr_origin.specs.Text.{key_text}
use Rattle.lr_origin.specs.declared.key.KeyKind.TheVariants as kind
use Rattle.lr_roots.specs.View.{View}
use Rattle.lr_roots.specs.Roots.{IsHome}
use Rattle.lr_rules.specs.State.{State}
use Rattle.lr_rules.specs.Calls.{MayOpen}
use Rattle.lr_depot.specs.declared.call.DepotReply.{DepotReply}
use Rattle.lr_depot.specs.declared.call.DepotReply.TheVariants.{NoImage, Fault, Spoiled}
use Rattle.lr_depot.specs.Machine.{IsUnopened}
use Rattle.lr_depot.specs.Depot.{Seen, state}
use Rattle.lr_walk.specs.Walk.{Walks, Ends, Or, Then}
use Rattle.lr_walk.specs.Depot.{Step, step, Reply, opened, fetched, memory, opens, fetches, closes, seen_reply, Asks}
use Rattle.lr_images.specs.declared.reading.CatError.{CatError}
use Rattle.lr_images.specs.declared.reading.CatError.TheVariants.{Refused, Sealed, OutOfMemory}
use Rattle.lr_images.specs.Drive.{Calls}

-- what reading an image ends with
pub data Ending : Type 0 where
  with_bytes : Ending
  with_reply : (reply : Reply) → Ending
  with_wrong_key : Ending
  with_memory : Ending

abbrev pub after_fetch : Walks Step Ending → Reply → Walks Step Ending
after_fetch more (fetched name) = more
after_fetch more memory = Ends with_memory
after_fetch more reply = Ends (with_reply reply)

-- The chunks of so many indices from here on are fetched, ascending, until one isn't given or the reader finds no memory.
abbrev pub Fetches : ℕ → ℕ → ℕ → Walks Step Ending
Fetches lease zero index = Or (Ends with_bytes) (Ends with_memory)
Fetches lease (suc left) index = Or (Asks (fetches lease index) (after_fetch (Fetches lease left (index + 1)))) (Ends with_memory)

-- At a right tag all chunks of the manifest are fetched, and at a wrong one none, unless the reader finds no memory.
abbrev pub ReadsLease : List ℕ → ℕ → ManifestFields → Walks Step Ending
ReadsLease tenant lease m steps end =
    (HasTag m tenant × Fetches lease (length m.names) 0 steps end) ⊎ (((HasTag m tenant → ⊥) × Ends with_wrong_key steps end) ⊎ Ends with_memory steps end)

-- the lease is closed, and the reading ends so
abbrev pub Closes : ℕ → Ending → Walks Step Ending
Closes lease end = Asks (closes lease) (λ reply. Ends end)

abbrev pub after_open : List ℕ → Reply → Walks Step Ending
after_open tenant (opened lease m) = Then (ReadsLease tenant lease m) (Closes lease)
after_open tenant memory = Ends with_memory
after_open tenant reply = Ends (with_reply reply)

-- the reading of an image under a tenant's key: it is leased, read, and its lease closed
abbrev pub Cats : List ℕ → List ℕ → Walks Step Ending
Cats image tenant = Asks (opens image) (after_open tenant)

abbrev pub error_end : CatError → Ending
error_end (Refused reply) = with_reply (seen_reply reply)
error_end Sealed = with_wrong_key
error_end OutOfMemory = with_memory

abbrev pub end_of : {A : Type 0} → Result A CatError → Ending
end_of (Ok bytes) = with_bytes
end_of (Err e) = error_end e

-- ---- what is read

-- the plaintexts of chunks, each under its key, joined
abbrev pub texts : List (List ℕ) → List (List ℕ) → List ℕ
texts keys [] = []
texts [] (chunk ∷ chunks) = []
texts (key ∷ keys) (chunk ∷ chunks) = chunk_text key chunk ++ texts keys chunks

-- the bodies of the chunk objects of a root, by their names
abbrev pub bodies : Objects → ℕ → List ℕ → Option (List ℕ)
bodies objects root name = map.get objects (key_text (kind.Chunk root name))

-- the chunk has the name, and it is the body that the store has of it at the image's home
pub record IsChunkOf (objects : Option Objects) (view : View) (image : List ℕ) (name : Name) (chunk : List ℕ) : Type 0 where
  pub digest : sha256 chunk ≡ name.bytes
  pub stored : Told objects (λ m. (home : ℕ) → IsHome view image home → bodies m home name.bytes ≡ Some chunk)

-- each chunk is that of the name at its index
abbrev pub AreChunksOf : Option Objects → View → List ℕ → List Name → List (List ℕ) → Type 0
AreChunksOf objects view image names chunks =
    (i : ℕ) (chunk : List ℕ) → slice_get chunks i ≡ Some chunk → (name : Name) × (slice_get names i ≡ Some name) × IsChunkOf objects view image name chunk

-- the chunk of the lease's image at this index was fetched
abbrev pub IsFetched : Option Objects → State → ℕ → ℕ → List ℕ → Type 0
IsFetched objects s lease index chunk =
    (image : List ℕ) (m : ManifestFields) → map.get s.desk.leases lease ≡ Some (image, m)
    → (name : Name) × (slice_get m.names index ≡ Some name) × IsChunkOf objects s.known.view image name chunk

-- the body of each name is the chunk at its index
abbrev pub AreBodies : (List ℕ → Option (List ℕ)) → List Name → List (List ℕ) → Type 0
AreBodies body names chunks = (i : ℕ) (name : Name) (chunk : List ℕ) → slice_get names i ≡ Some name → slice_get chunks i ≡ Some chunk → body name.bytes ≡ Some chunk

-- The bytes are what the manifest denotes over these chunks, cut to the raw length.
pub record Denotes (m : ManifestFields) (tenant : List ℕ) (body : List ℕ → Option (List ℕ)) (bytes : List ℕ) : Type 0 where
  pub padded : List ℕ
  pub denoted : denotation m tenant body ≡ Some padded
  pub cut : bytes ≡ take m.raw_len padded

-- The bytes of an image with this manifest: for each name a chunk with this name was fetched, and over these chunks the manifest denotes the bytes.
pub record IsReadOf (objects : Option Objects) (view : View) (image tenant : List ℕ) (m : ManifestFields) (bytes : List ℕ) : Type 0 where
  pub chunks : List (List ℕ)
  pub count : length chunks ≡ length m.names
  pub named : AreChunksOf objects view image m.names chunks
  pub over : (body : List ℕ → Option (List ℕ)) → AreBodies body m.names chunks → Denotes m tenant body bytes

-- The image was leased and has this manifest, the bytes were read of it, and over the bodies that the store has at the image's home the manifest denotes them.
pub record IsRead {O : Type 0} (objects : O → Option Objects) (old : Seen O) (image tenant : List ℕ) (steps : List Step) (bytes : List ℕ) : Type 0 where
  pub lease : ℕ
  pub manifest : ManifestFields
  pub tail : List Step
  pub leased : steps ≡ step (opens image) (opened lease manifest) ∷ tail
  pub home : ℕ
  pub listed : MayOpen (state old.start old.log) image home manifest
  pub read : IsReadOf (objects old.origin) (state old.start old.log).known.view image tenant manifest bytes
  pub stored : Told (objects old.origin) (λ m. Denotes manifest tenant (bodies m home) bytes)

-- the store failed or is spoiled, or no memory was found
abbrev pub IsStoreAnswer : CatError → Type 0
IsStoreAnswer (Refused (Fault k)) = ⊤
IsStoreAnswer (Refused (Spoiled k)) = ⊤
IsStoreAnswer OutOfMemory = ⊤
IsStoreAnswer e = ⊥

-- the tag is wrong, or no memory was found
abbrev pub IsUnsealed : CatError → ManifestFields → List ℕ → Type 0
IsUnsealed (Refused reply) m tenant = ⊥
IsUnsealed Sealed m tenant = HasTag m tenant → ⊥
IsUnsealed OutOfMemory m tenant = ⊤

-- .. or the tenant's key is wrong
abbrev pub IsLeaseAnswer : CatError → Type 0
IsLeaseAnswer Sealed = ⊤
IsLeaseAnswer e = IsStoreAnswer e

-- the image can't be opened, or the tenant's key is wrong, or the store's answer
abbrev pub IsRefusal : View → List ℕ → CatError → Type 0
IsRefusal view image (Refused NoImage) = IsUnopened view image
IsRefusal view image e = IsLeaseAnswer e

-- the store failed
abbrev pub IsStoreFault : CatError → Type 0
IsStoreFault (Refused (Fault k)) = ⊤
IsStoreFault e = ⊥

-- the depot's state and its store's objects stay
pub record Keeps {O : Type 0} (objects : O → Option Objects) (old new : Seen O) : Type 0 where
  pub same_state : state new.start new.log ≡ state old.start old.log
  pub same_objects : Told (objects old.origin) (λ m. objects new.origin ≡ Some m)

-- so many chunks of a leased image were fetched, and their plaintexts are the bytes
abbrev pub HasTexts : Option Objects → State → ℕ → List (List ℕ) → ℕ → List ℕ → Type 0
HasTexts objects s lease keys count bytes =
    (image : List ℕ) (m : ManifestFields) → map.get s.desk.leases lease ≡ Some (image, m)
    → (chunks : List (List ℕ)) × (length chunks ≡ count) × AreChunksOf objects s.known.view image m.names chunks × (bytes ≡ texts keys chunks)

-- the chunks of the indices below this one were fetched
pub record HasFetched {O : Type 0} (objects : O → Option Objects) (faults : O → ℕ) (old : Seen O) (lease : ℕ) (keys : List (List ℕ)) (index : ℕ) (now : Seen O) (bytes : List ℕ) : Type 0 where
  pub steps : List Step
  pub calls : Calls faults old now steps
  pub walk : (left : ℕ) → index + left ≡ length keys → (tail : List Step) (end : Ending) → Fetches lease left index tail end → Fetches lease (length keys) 0 (steps ++ tail) end
  pub keeps : Keeps objects old now
  pub texts : HasTexts (objects old.origin) (state old.start old.log) lease keys index bytes
