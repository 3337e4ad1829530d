-- a reading as a command
use Rattle.std.proofs.Common.{◌≡◌, ◌^◌, ℕ, List, [], ◌∷◌, take, Option, Some, Result, Ok, codes, refl, sym, ap, subst, ◌∙◌, inl, inr}
use Rattle.std.specs.Prelude.{◌⊎◌}
use Rattle.lr_spec.specs.Rose.{Rose}
use Rattle.lr_io.specs.Streams.{Appends}
use Rattle.hex.specs.Hex.{decode_sized}
use Rattle.hex.proofs.HexLemmas.{decode_sized-encode_lower}
use Rattle.lr_text.specs.Words.{IsKey, key_word}
use Rattle.lr_origin.specs.Objects.{Objects}
use Rattle.lr_opening.specs.Cause.{IsCause}
use Rattle.lr_opening.specs.declared.cause.StartCause.{StartCause}
use Rattle.lr_opening.specs.declared.cause.StartCause.TheVariants as cause
use Rattle.lr_opening.specs.Listing.{HasFewer}
use Rattle.lr_opening.specs.Store.{IsSoundStore}
use Rattle.lr_depot.specs.Begun.{Start}
use Rattle.lr_depot.specs.Store.{IsRun}
use Rattle.lr_depot.specs.Depot.{first_state}
use Rattle.lr_stop.specs.Images.{IsKept, ReadsBack}
use Rattle.lr_stop.specs.Stops.{SoundStoresStart}
use Rattle.lr_desk.specs.declared.outcome.Outcome.{Outcome}
use Rattle.lr_desk.specs.declared.outcome.Outcome.TheVariants.{Done, Usage, ReadFault, WriteFault, OriginFault, Memory, Refused, Foreign, Spoiled, TooMany}
use Rattle.lr_desk.specs.declared.words.Command.{Command}
use Rattle.lr_desk.specs.declared.words.Command.TheVariants.{Create, Cat, Rotate, Migrate, Withdraw, Expire, Delete, Sweep, Roots}
use Rattle.lr_desk.specs.Words.{IsCommand, words_of}
use Rattle.lr_desk.specs.Outcome.{status_of}
use Rattle.lr_desk.specs.Causes.{cause_of, IsComplete, HasCommanded}
use Rattle.lr_desk.specs.Ends.{Setting, setting, HasRun}
use Rattle.lr_top.specs.declared.outcome.RunRecord.{RunRecord}
use Rattle.lr_top.specs.declared.outcome.RunRecord.TheVariants as record_of
use Rattle.lr_top.specs.Gives.{Streams, Commands}
use Rattle.lr_top.specs.Again.{ImagesAreReadAgain, ReadsAgain}

-- a word spells one key
one_key : (a b : List ℕ) → IsKey a → IsKey b → key_word a ≡ key_word b → a ≡ b
one_key a b is other e =
    let x : decode_sized (key_word a) 32 ≡ Ok a = decode_sized-encode_lower a 32 is.long is.bytes in
    let y : decode_sized (key_word b) 32 ≡ Ok b = decode_sized-encode_lower b 32 other.long other.bytes in
    let z : decode_sized (key_word a) 32 ≡ decode_sized (key_word b) 32 = ap (λ (w : List ℕ). decode_sized w 32) e in
    cc

-- words of a reading are those of no other command
first_word : List (List ℕ) → List ℕ
first_word [] = []
first_word (w ∷ words) = w

one_cat : (c : Command) (image tenant : List ℕ) → IsCommand (Cat image tenant) → IsCommand c → words_of (Cat image tenant) ≡ words_of c → c ≡ Cat image tenant
unfolding first_word
one_cat (Cat i t) image tenant a b e =
    let names : image ≡ i = cc in
    let keys : key_word tenant ≡ key_word t = cc in
    let same : tenant ≡ t = one_key tenant t a.1 b.1 keys in
    λ k. Cat (sym names k) (sym same k)
one_cat (Create i t) image tenant a b e = absurd (let f : codes "cat" ≡ codes "create" = ap first_word e in cc)
one_cat (Rotate bytes) image tenant a b e = absurd (let f : codes "cat" ≡ codes "rotate" = ap first_word e in cc)
one_cat (Migrate i) image tenant a b e = absurd (let f : codes "cat" ≡ codes "migrate" = ap first_word e in cc)
one_cat (Withdraw i) image tenant a b e = absurd (let f : codes "cat" ≡ codes "withdraw" = ap first_word e in cc)
one_cat (Expire r) image tenant a b e = absurd (let f : codes "cat" ≡ codes "expire" = ap first_word e in cc)
one_cat (Delete r) image tenant a b e = absurd (let f : codes "cat" ≡ codes "delete" = ap first_word e in cc)
one_cat (Sweep r) image tenant a b e = absurd (let f : codes "cat" ≡ codes "sweep" = ap first_word e in cc)
one_cat Roots image tenant a b e = absurd (let f : codes "cat" ≡ codes "roots" = ap first_word e in cc)

-- the word of a play is none of a reading
pub play_no_cat : (words : List (List ℕ)) (image tenant : List ℕ) → words ≡ codes "play" ∷ [] → words ≡ words_of (Cat image tenant) → ⊥
unfolding first_word
play_no_cat words image tenant play cat = let f : codes "play" ≡ codes "cat" = ap first_word (sym play ∙ cat) in cc

-- an outcome is told by its status
complete_by : (x y : Outcome) → status_of x ≡ status_of y → IsComplete x → IsComplete y
complete_by Done Done e c = tt
complete_by Done Memory e c = absurd cc
complete_by Done (Refused r) e c = absurd cc
complete_by Done Usage e c = absurd cc
complete_by Done ReadFault e c = absurd cc
complete_by Done WriteFault e c = absurd cc
complete_by Done OriginFault e c = absurd cc
complete_by Done (Foreign k) e c = absurd cc
complete_by Done (Spoiled k) e c = absurd cc
complete_by Done TooMany e c = absurd cc
complete_by Memory Done e c = tt
complete_by Memory Memory e c = tt
complete_by Memory (Refused r) e c = tt
complete_by Memory Usage e c = absurd cc
complete_by Memory ReadFault e c = absurd cc
complete_by Memory WriteFault e c = absurd cc
complete_by Memory OriginFault e c = absurd cc
complete_by Memory (Foreign k) e c = absurd cc
complete_by Memory (Spoiled k) e c = absurd cc
complete_by Memory TooMany e c = absurd cc
complete_by (Refused q) Done e c = tt
complete_by (Refused q) Memory e c = tt
complete_by (Refused q) (Refused r) e c = tt
complete_by (Refused q) Usage e c = absurd cc
complete_by (Refused q) ReadFault e c = absurd cc
complete_by (Refused q) WriteFault e c = absurd cc
complete_by (Refused q) OriginFault e c = absurd cc
complete_by (Refused q) (Foreign k) e c = absurd cc
complete_by (Refused q) (Spoiled k) e c = absurd cc
complete_by (Refused q) TooMany e c = absurd cc
complete_by x y e c = absurd c

module _ {O : Type 0} (objects : O → Option Objects) (faults : O → ℕ) (starts : SoundStoresStart) (again : ImagesAreReadAgain) where
  -- of the words of the reading itself
  read_words : (before after : O) (s : Streams) (image tenant : List ℕ) (left : RunRecord) (status : ℕ) (line : List ℕ)
      → Commands objects faults before after s (words_of (Cat image tenant)) left status line → IsCommand (Cat image tenant) → (bytes : List ℕ) (n : Objects)
      → objects before ≡ Some n → IsSoundStore n → HasFewer n (2 ^ 32)
      → ¬ (Rose (faults before) (faults after)) → ¬ (Rose s.failed_before s.failed_after) → ¬ (Rose s.sunk.faults_before s.sunk.faults_after)
      → (back : ReadsBack n image tenant bytes) → IsKept n image
      → ((status ≡ 0) × Appends s.sunk.written_before (take back.fields.raw_len bytes) s.sunk.written_after) ⊎ (status ≡ 7)
  read_words before after s image tenant record_of.Nothing status line p is bytes n told sound fewer steady source sink back kept = elim p.why [
    | inl worded ↦ absurd (worded (Cat image tenant, is, refl))
    | inr c ↦ inr (
        c.2 ∙ ap (λ (x : StartCause). status_of (cause_of x)) (starts n (faults before) (faults after) c.0 sound fewer steady (subst (λ o. IsCause o (faults before) (faults after) c.0) told c.1))
        )
  ]
  read_words before after s image tenant (record_of.Run run) status line p is bytes n told sound fewer steady source sink back kept = absurd p.recorded
  read_words before after s image tenant (record_of.Command left) status line p is bytes n told sound fewer steady source sink back kept =
      let h = p.commanded in
      let complete : IsComplete p.answered.outcome = p.answered.complete (Cat image tenant, is, refl) steady source sink n told sound fewer in
      let ends : IsComplete h.outcome = complete_by p.answered.outcome h.outcome (sym p.answered.gave ∙ h.gave) complete in
      let same : h.command ≡ Cat image tenant = one_cat h.command image tenant is h.is h.worded in
      let first_told : h.first.start.objects ≡ Some n = h.started.told ∙ told in
      let runs : IsRun (first_state h.first.start) left.log =
      subst (IsRun (first_state h.first.start)) (sym h.ended.log) (subst (λ (t : Start). IsRun (first_state t) h.last.log) h.same h.ended.legal) in
      let ran : HasRun (Cat image tenant) (setting objects h.first s.left_before s.left_after) left.log s.sunk.written_before s.sunk.written_after h.outcome =
      subst (λ (c : Command). HasRun c (setting objects h.first s.left_before s.left_after) left.log s.sunk.written_before s.sunk.written_after h.outcome) same h.ran in
      elim (again (setting objects h.first s.left_before s.left_after) n image tenant bytes left.log s.sunk.written_before s.sunk.written_after h.outcome h.started.start first_told (h.started.stays ∙ told) runs back kept ran ends) [
        | inl done ↦ inl (h.gave ∙ ap status_of done.0, done.1)
        | inr memory ↦ inr (h.gave ∙ ap status_of memory)
      ]

  pub reads_again : (before after : O) (s : Streams) (words : List (List ℕ)) (left : RunRecord) (status : ℕ) (line : List ℕ)
      → Commands objects faults before after s words left status line → ReadsAgain (objects before) (faults before) (faults after) s words status
  reads_again before after s words left status line p image tenant bytes n worded is =
      read_words before after s image tenant left status line (subst (λ (w : List (List ℕ)). Commands objects faults before after s w left status line) worded p) is bytes n
