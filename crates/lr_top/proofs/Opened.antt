-- what device lines opened
use Rattle.std.proofs.Common.{◌≡◌, ◌<◌, ◌+◌, ℕ, zero, suc, List, [], ◌∷◌, ◌++◌, length, map, take, get_or, Some, slice_get, option_map, refl, sym, ap, subst, ◌∙◌, inl, inr, add-one, append-nil, length-append}
use Rattle.std.specs.Prelude.{◌⊎◌}
use Rattle.std.specs.Arc.{arc_value}
use Rattle.std.proofs.Math.Seq.{take-suc}
use Rattle.std.proofs.lemmas.List.{length-map, map-append}
use Rattle.std.proofs.lemmas.List.Concat.{flat_map-append}
use Rattle.std.proofs.lemmas.Option.{slice_get-map}
use Rattle.lr_device.specs.Held as device
use Rattle.lr_manifest.specs.Manifest.{ManifestFields}
use Rattle.lr_actors.specs.declared.place.DevicePlace.{DevicePlace}
use Rattle.lr_depot.specs.Depot.{Seen}
use Rattle.lr_history.specs.Run.{DeviceLine}
use Rattle.lr_script.specs.declared.script.Setup.{Setup}
use Rattle.lr_script.specs.Seen.{SetupSeen, Host, Root, Image, Device, ScriptSeen, setup_seen}
use Rattle.lr_setup.specs.Setup.{SetupLine, rotates, creates, opens, devices_of}
use Rattle.lr_actors.specs.declared.place.Parts.{Parts}
use Rattle.lr_actors.specs.declared.place.Context.{Context}
use Rattle.lr_actors.specs.Places.{seen_place}
use Rattle.lr_prepare.specs.Lines.{seen_lines, unnumbered, IsDoneAs, AreDoneAs}
use Rattle.lr_prepare.specs.New.{new_device, place_at, kept_manifests}
use Rattle.lr_prepare.specs.Prepared.{IsPrepared}
use Rattle.lr_report.specs.declared.run.OpenDevice.{OpenDevice}
use Rattle.lr_top.specs.Opening.{image_opened, images_opened, IsOpenedAs, AreOpened}
use Rattle.lr_top.specs.Played.{AreOpened as HaveOpened}

-- ---- the images of device lines

abbrev opened_by : ℕ × SetupSeen → List (List ℕ)
opened_by line = image_opened line.1

abbrev seen_line : ℕ × Setup → ℕ × SetupSeen
seen_line line = (line.0, setup_seen line.1)

pub images_more : (lines : List (ℕ × Setup)) (i : ℕ) (line : ℕ × Setup) → i < length lines → get_or lines i line ≡ line
    → images_opened (seen_lines (take (i + 1) lines)) ≡ images_opened (seen_lines (take i lines)) ++ image_opened (setup_seen line.1)
unfolding images_opened
images_more lines i line less at =
    let front : take (i + 1) lines ≡ take i lines ++ line ∷ [] = ap (λ (n : ℕ). take n lines) (add-one i) ∙ (take-suc lines i line less ∙ ap (λ (y : ℕ × Setup). take i lines ++ y ∷ []) at) in
    ap (λ (l : List (ℕ × Setup)). images_opened (seen_lines l)) front
    ∙ (ap images_opened (map-append seen_line (take i lines) (line ∷ []))
    ∙ (flat_map-append opened_by (seen_lines (take i lines)) (seen_line line ∷ [])
    ∙ ap (λ (l : List (List ℕ)). images_opened (seen_lines (take i lines)) ++ l) (append-nil (image_opened (setup_seen line.1)))))

-- ---- one device more

pub get_push : {X : Type 0} (xs : List X) (x : X) (i : ℕ) (o : X) → slice_get (xs ++ x ∷ []) i ≡ Some o → (slice_get xs i ≡ Some o) ⊎ ((i ≡ length xs) × (x ≡ o))
get_push [] x zero o e = inr (refl, cc)
get_push [] x (suc i) o e = absurd (cc)
get_push (y ∷ xs) x zero o e = inl e
get_push (y ∷ xs) x (suc i) o e = by (get_push xs x i o e)
  where
    by : (slice_get xs i ≡ Some o) ⊎ ((i ≡ length xs) × (x ≡ o)) → (slice_get xs i ≡ Some o) ⊎ ((suc i ≡ suc (length xs)) × (x ≡ o))
    by (inl h) = inl h
    by (inr h) = inr (ap suc h.0, h.1)

-- the devices of the first images
pub record HasOpened (at : ℕ) (images : List (List ℕ)) (devices : List device.Seen) (places : List DevicePlace) (opened : List OpenDevice) : Type 0 where
  pub many : length opened ≡ at
  pub each : (i : ℕ) (o : OpenDevice) → slice_get opened i ≡ Some o → (image : List ℕ) × (d : device.Seen) × (place : DevicePlace)
      × (slice_get images i ≡ Some image) × (slice_get devices i ≡ Some d) × (slice_get places i ≡ Some place) × IsOpenedAs image d place o

pub none_opened : (images : List (List ℕ)) (devices : List device.Seen) (places : List DevicePlace) → HasOpened 0 images devices places []
none_opened images devices places = record { many = refl; each = λ i o e. absurd (cc) }

pub one_opened : (at : ℕ) (images : List (List ℕ)) (devices : List device.Seen) (places : List DevicePlace) (opened : List OpenDevice) (image : List ℕ) (d : device.Seen) (place : DevicePlace) (o : OpenDevice) → HasOpened at images devices places opened
    → slice_get images at ≡ Some image → slice_get devices at ≡ Some d → slice_get places at ≡ Some place → IsOpenedAs image d place o → HasOpened (at + 1) images devices places (opened ++ o ∷ [])
one_opened at images devices places opened image d place o h a b c is = record {
  many = length-append opened (o ∷ []) ∙ ap (λ (n : ℕ). n + 1) h.many;
  each = λ i q e. by i q (get_push opened o i q e);
}
  where
    by : (i : ℕ) (q : OpenDevice) → (slice_get opened i ≡ Some q) ⊎ ((i ≡ length opened) × (o ≡ q)) → (image : List ℕ) × (d : device.Seen) × (place : DevicePlace)
        × (slice_get images i ≡ Some image) × (slice_get devices i ≡ Some d) × (slice_get places i ≡ Some place) × IsOpenedAs image d place q
    by i q (inl e) = h.each i q e
    by i q (inr e) =
        let there : i ≡ at = e.0 ∙ h.many in (
          image,
          d,
          place,
          subst (λ (n : ℕ). slice_get images n ≡ Some image) (sym there) a,
          subst (λ (n : ℕ). slice_get devices n ≡ Some d) (sym there) b,
          subst (λ (n : ℕ). slice_get places n ≡ Some place) (sym there) c,
          subst (IsOpenedAs image d place) e.1 is,
        )

pub all_opened : (at : ℕ) (images : List (List ℕ)) (devices : List device.Seen) (places : List DevicePlace) (opened : List OpenDevice) → at ≡ length images → HasOpened at images devices places opened → AreOpened images devices places opened
all_opened at images devices places opened all h = record { many = h.many ∙ all; each = h.each }

-- ---- of a script whose setup was done

devices-append : (xs ys : List SetupLine) → devices_of (xs ++ ys) ≡ devices_of xs ++ devices_of ys
devices-append [] ys = refl
devices-append (rotates salt ∷ xs) ys = devices-append xs ys
devices-append (creates line ∷ xs) ys = devices-append xs ys
devices-append (opens line ∷ xs) ys = ap (λ (l : List DeviceLine). line ∷ l) (devices-append xs ys)

one_image : (line : SetupSeen) (lines : List SetupLine) → IsDoneAs line lines → map (λ (d : DeviceLine). d.image) (devices_of lines) ≡ image_opened line
one_image (Host name cap) lines h = ap (λ (l : List SetupLine). map (λ (d : DeviceLine). d.image) (devices_of l)) h
one_image (Root salt) lines h = ap (λ (l : List SetupLine). map (λ (d : DeviceLine). d.image) (devices_of l)) h
one_image (Image name tenant len body) lines h = ap (λ (l : List SetupLine). map (λ (d : DeviceLine). d.image) (devices_of l)) h.1
one_image (Device name host image tenant) lines h = ap (λ (l : List SetupLine). map (λ (d : DeviceLine). d.image) (devices_of l)) h.1 ∙ ap (λ (x : List ℕ). x ∷ []) h.2

-- the images of the lines are those of the devices that they opened
pub images_done : (setup : List (ℕ × SetupSeen)) (lines : List SetupLine) → AreDoneAs (unnumbered setup) lines → map (λ (d : DeviceLine). d.image) (devices_of lines) ≡ images_opened setup
unfolding images_opened
images_done [] lines h = ap (λ (l : List SetupLine). map (λ (d : DeviceLine). d.image) (devices_of l)) h
images_done (line ∷ setup) lines (front, rest, are, is, more) =
    ap (λ (l : List SetupLine). map (λ (d : DeviceLine). d.image) (devices_of l)) are
    ∙ (ap (map (λ (d : DeviceLine). d.image)) (devices-append front rest)
    ∙ (map-append (λ (d : DeviceLine). d.image) (devices_of front) (devices_of rest)
    ∙ (ap (λ (l : List (List ℕ)). l ++ map (λ (d : DeviceLine). d.image) (devices_of rest)) (one_image line.1 front is)
    ∙ ap (λ (l : List (List ℕ)). image_opened line.1 ++ l) (images_done setup rest more))))

module _ {O : Type 0} (script : ScriptSeen) (first : Seen O) (parts : Parts O) (context : Context) (p : IsPrepared script first parts context) where
  places_are : map seen_place context.devices.items ≡ map place_at (devices_of p.lines)
  places_are = ap (λ c. c.devices) p.shared

  pub devices_many : length parts.devices.items ≡ length (images_opened script.setup)
  devices_many =
      ap length p.devices ∙ (length-map (devices_of p.lines) new_device ∙ (sym (length-map (devices_of p.lines) (λ (d : DeviceLine). d.image)) ∙ ap length (images_done script.setup p.lines p.are)))

  pub places_many : length context.devices.items ≡ length (images_opened script.setup)
  places_many =
      sym (length-map context.devices.items seen_place) ∙ (ap length places_are ∙ (length-map (devices_of p.lines) place_at ∙ (sym (length-map (devices_of p.lines) (λ (d : DeviceLine). d.image)) ∙ ap length (images_done script.setup p.lines p.are))))

  -- what a place of a mapped list comes from
  from_at : {A B : Type 0} (f : A → B) (xs : List A) (i : ℕ) (y : B) → slice_get (map f xs) i ≡ Some y → (x : A) × (slice_get xs i ≡ Some x) × (y ≡ f x)
  from_at f [] i y e = absurd (cc)
  from_at f (x ∷ xs) zero y e = (x, refl, cc)
  from_at f (x ∷ xs) (suc i) y e = from_at f xs i y e

  at_of : {A B : Type 0} (f : A → B) (xs : List A) (i : ℕ) (x : A) (y : B) → slice_get xs i ≡ Some x → slice_get (map f xs) i ≡ Some y → y ≡ f x
  at_of f xs i x y a b = let e : Some (f x) ≡ Some y = sym (ap (option_map f) a) ∙ (sym (slice_get-map f xs i) ∙ b) in cc

  pub have_opened : (opened : List OpenDevice) → AreOpened (images_opened script.setup) parts.devices.items context.devices.items opened → HaveOpened (devices_of p.lines) opened
  have_opened opened h = record {
    many = h.many ∙ (ap length (sym (images_done script.setup p.lines p.are)) ∙ length-map (devices_of p.lines) (λ (d : DeviceLine). d.image));
    each = λ i o e.
        let (image, d, place, at_image, at_device, at_place, is) = h.each i o e in
        let here = from_at (λ (d : DeviceLine). d.image) (devices_of p.lines) i image (subst (λ (l : List (List ℕ)). slice_get l i ≡ Some image) (sym (images_done script.setup p.lines p.are)) at_image) in
        let device_is : d ≡ new_device here.0 = at_of new_device (devices_of p.lines) i here.0 d here.1 (subst (λ (l : List device.Seen). slice_get l i ≡ Some d) p.devices at_device) in
        let kept : slice_get (kept_manifests context.devices.items) i ≡ Some (arc_value place.manifest) = slice_get-map (λ (q : DevicePlace). arc_value q.manifest) context.devices.items i ∙ ap (option_map (λ (q : DevicePlace). arc_value q.manifest)) at_place in
        let manifest_is : arc_value place.manifest ≡ here.0.manifest = at_of (λ (d : DeviceLine). d.manifest) (devices_of p.lines) i here.0 (arc_value place.manifest) here.1 (subst (λ (l : List ManifestFields). slice_get l i ≡ Some (arc_value place.manifest)) p.manifests kept) in
        (here.0, here.1, record { image = is.image ∙ here.2; length = is.length ∙ ap (λ (s : device.Seen). s.capacity) device_is; manifest = is.manifest ∙ manifest_is });
  }
