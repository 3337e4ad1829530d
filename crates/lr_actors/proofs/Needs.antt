-- the numbers that are left
use Rattle.std.proofs.Common.{◌≡◌, ℕ, ◌+◌, List, ◌∷◌, drop, Some, sym, ap, subst, ◌∙◌, add-one, drop-cons}
use Rattle.std.specs.Prelude.{slice_get}
use Rattle.std.specs.List.{AllByRecursion}
use Rattle.std.proofs.lemmas.Option.{slice_get_within, get_or_from_slice_get}
use Rattle.lr_manifest.specs.declared.name.Name.{Name}
use Rattle.lr_walk.specs.declared.place.LoadPlace.{LoadPlace}
use Rattle.lr_walk.specs.Calls.{DevicePlace, load_place}
use Rattle.lr_loader.specs.Progress as loads
use Rattle.lr_actors.specs.Serving.{HasChunk, Work, Left, Need, loading, LoadsNext}

pub first_of : (xs : List ℕ) (i x : ℕ) → slice_get xs i ≡ Some x → drop i xs ≡ x ∷ drop (i + 1) xs
first_of xs i x e =
    drop-cons xs i x (slice_get_within xs i x e) ∙ (λ k. get_or_from_slice_get xs i x x e k ∷ drop (sym (add-one i) k) xs)

-- the chunks that are left but the first
pub rest_have : (place : DevicePlace) (needs rest : List ℕ) (i : ℕ) → needs ≡ i ∷ rest → AllByRecursion (HasChunk place) needs → AllByRecursion (HasChunk place) rest
rest_have place needs rest i e h = (subst (AllByRecursion (HasChunk place)) e h).1

pub first_has : (place : DevicePlace) (needs rest : List ℕ) (i : ℕ) → needs ≡ i ∷ rest → AllByRecursion (HasChunk place) needs → HasChunk place i
first_has place needs rest i e h = (subst (AllByRecursion (HasChunk place)) e h).0

-- the load of the next chunk
pub loads_next : (w : Work) (place : DevicePlace) (i : ℕ) (left : Left) (new : Need) (name : Name) (key : List ℕ) (at : LoadPlace) (need : loads.Need) (waits : Left)
    → place ≡ w.place → slice_get place.names i ≡ Some name → slice_get place.keys i ≡ Some key
    → at ≡ record { host = place.host; lease = place.lease; index = i; name = name; nodes = w.nodes } → need ≡ loads.looking → waits ≡ left
    → new ≡ loading (record { place = at; key = key }) need waits → LoadsNext w i left new
loads_next w place i left new name key at need waits same names keys p n l e = (
  name,
  key,
  subst (λ (q : DevicePlace). slice_get q.names i ≡ Some name) same names,
  subst (λ (q : DevicePlace). slice_get q.keys i ≡ Some key) same keys,
  e ∙ (λ k. loading (record { place = p k; key = key }) (n k) (l k)) ∙ ap (λ (q : DevicePlace). loading (record { place = load_place w.nodes q i name; key = key }) loads.looking left) same,
)
