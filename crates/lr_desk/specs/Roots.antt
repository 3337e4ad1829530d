-- The text of a view: a line for each root, then one for each image that a live root has a manifest of.
use Rattle.std.specs.Prelude.{◌≡◌, ◌⊎◌, ◌↔◌, ℕ, zero, suc, List, [], ◌∷◌, ◌++◌, codes, decimal, Some}
use Rattle.std.specs.List.Sorted.{IsStrictlySortedBy}
use Rattle.std.specs.FinMap as map
use Rattle.lr_manifest.specs.Manifest.{ManifestFields}
use Rattle.lr_origin.specs.Objects.{key_cmp}
use Rattle.lr_origin.specs.declared.key.KeyKind.TheVariants.{Manifest, Withdrawn}
use Rattle.lr_roots.specs.View.{View, manifest, Has, Lacks}
use Rattle.lr_roots.specs.Roots.{IsTop, IsLive, IsRootState, IsHome}
use Rattle.lr_roots.specs.Names.{AreMany, IsOneOf, IsManifestOf, IsChunkOf}
use Rattle.lr_roots.specs.declared.state.RootState.{RootState}
use Rattle.lr_rootlines.specs.RootLines.{root_line}

-- the line of a root, with its state and the numbers of its manifest and chunk keys
pub record IsRootLine (v : View) (r : ℕ) (line : List ℕ) : Type 0 where
  pub state : RootState
  pub images : ℕ
  pub chunks : ℕ
  pub is : IsRootState v r (Some state)
  pub manifests : AreMany (λ key. Has v key × IsManifestOf r key) images
  pub bodies : AreMany (λ key. Has v key × IsChunkOf r key) chunks
  pub text : line ≡ root_line r state images chunks

-- the lines of the roots 1 to n
abbrev pub AreRootLines : View → ℕ → List ℕ → Type 0
AreRootLines v zero text = text ≡ []
AreRootLines v (suc n) text = (front : List ℕ) × (line : List ℕ) × AreRootLines v n front × IsRootLine v (suc n) line × (text ≡ front ++ line)

-- all roots in ascending order
abbrev pub IsRootsPart : View → List ℕ → Type 0
IsRootsPart v text = (n : ℕ) × IsTop v n × AreRootLines v n text

-- whether the image can still be opened
abbrev pub IsServedWord : View → List ℕ → List ℕ → Type 0
IsServedWord v image word = (Lacks v (Withdrawn image) × (word ≡ codes "served")) ⊎ (Has v (Withdrawn image) × (word ≡ codes "withdrawn"))

-- `image NAME root HOME`
abbrev pub image_head : List ℕ → ℕ → List ℕ
image_head image home = codes "image " ++ (image ++ (codes " root " ++ decimal home))

-- ` bytes RAW served`, or with `withdrawn` at its end
abbrev pub image_tail : ℕ → List ℕ → List ℕ
image_tail raw word = codes " bytes " ++ (decimal raw ++ (codes " " ++ (word ++ codes "\n")))

-- both as one line
unfoldable pub image_line : List ℕ → ℕ → ℕ → List ℕ → List ℕ
image_line image home raw word = image_head image home ++ image_tail raw word

-- the line of an image, with its home and the raw length that its manifest there has
pub record IsImageLine (v : View) (image : List ℕ) (line : List ℕ) : Type 0 where
  pub home : ℕ
  pub fields : ManifestFields
  pub word : List ℕ
  pub homed : IsHome v image home
  pub listed : map.get v (Manifest home image) ≡ Some (manifest fields)
  pub served : IsServedWord v image word
  pub text : line ≡ image_line image home fields.raw_len word

-- a live root has a manifest of the image
abbrev pub IsInLive : View → List ℕ → Type 0
IsInLive v image = (r : ℕ) × IsLive v r × Has v (Manifest r image)

-- the lines of these images
abbrev pub AreImageLines : View → List (List ℕ) → List ℕ → Type 0
AreImageLines v [] text = text ≡ []
AreImageLines v (image ∷ images) text = (line : List ℕ) × (rest : List ℕ) × IsImageLine v image line × AreImageLines v images rest × (text ≡ line ++ rest)

-- all images that a live root has a manifest of, in byte order
pub record IsImagesPart (v : View) (text : List ℕ) : Type 0 where
  pub images : List (List ℕ)
  pub ascend : IsStrictlySortedBy key_cmp images
  pub just : (image : List ℕ) → IsOneOf images image ↔ IsInLive v image
  pub lines : AreImageLines v images text

-- the roots, then the images
abbrev pub IsViewText : View → List ℕ → Type 0
IsViewText v text = (roots : List ℕ) × (images : List ℕ) × IsRootsPart v roots × IsImagesPart v images × (text ≡ roots ++ images)

-- A text that passes was added.
abbrev pub Adds : (List ℕ → Type 0) → List ℕ → List ℕ → Type 0
Adds P old new = (text : List ℕ) × P text × (new ≡ old ++ text)
