-- Known images stay, and denote what they did.
use Rattle.std.proofs.Common.{◌≡◌, List, [], ◌∷◌, ◌++◌, Some, refl, subst, ◌∙◌, inl}
use Rattle.std.specs.FinMap as map
use Rattle.lr_seal.specs.Made.{MadeManifestsDenote, DenotationsAgree}
use Rattle.lr_origin.specs.Objects.{Objects}
use Rattle.lr_origin.specs.declared.key.KeyKind.TheVariants.{Manifest, Withdrawn}
use Rattle.lr_roots.specs.View.{View, manifest, Lacks}
use Rattle.lr_roots.specs.Roots.{IsHome}
use Rattle.lr_opening.specs.Store.{Mirrors, HasChunks}
use Rattle.lr_rules.specs.State.{State}
use Rattle.lr_rules.specs.Safe.{IsSafe, Keeps}
use Rattle.lr_rules.proofs.Keeps.{home_of_known}
use Rattle.lr_rules.proofs.Start.{start_safe}
use Rattle.lr_depot.specs.Machine.{LogEntry, after_entry}
use Rattle.lr_depot.specs.Store.{IsRun, LeadsTo, Follows}
use Rattle.lr_depot.specs.Depot.{first_state, state}
use Rattle.lr_depot.proofs.Logged.{leads_run}
use Rattle.lr_depot.proofs.Moved.{run_safe}
use Rattle.lr_depot.proofs.Owing.{known_keeps}
use Rattle.lr_depot.proofs.Followed.{leads_follows, start_follows}
use Rattle.lr_stop.specs.Images.{bodies, HasImage}
use Rattle.lr_stop.specs.Stops.{KnownImagesStay, OpenedImagesStay, CreatedImagesStay, StoresKeepImages}
use Rattle.lr_stop.proofs.Found.{lacks_of, image_of, home_whole, bodies_among}

-- ---- known images

pub known_stay : KnownImagesStay
known_stay start m n log image fields led chunks known kept =
    let first : IsSafe (first_state start) = start_safe start.view start.number led.begun.may in
    let is : IsRun (first_state start) log = leads_run (first_state start) m log n led.leads in
    let safe : IsSafe (state start log) = run_safe (first_state start) log first is in
    let f : Follows (state start log).known n × HasChunks n = leads_follows (first_state start) m log n first led.leads (start_follows start.view start.number m led.mirrors, chunks) in
    let keeps : Keeps (state start log) image fields = known_keeps start.view start.number log led.begun.may is image fields known in
    let v : View = f.0.0 in
    let away : Lacks v (Withdrawn image) = lacks_of n v f.0.2 (Withdrawn image) kept in
    let home = home_of_known (state start log) safe image fields keeps v f.0.1 away in
    image_of n v f.0.2 f.1 (safe.good v f.0.1).sound image fields home.0 home.1 home.2 home.3

-- ---- what they denote

pub opened_stay : DenotationsAgree → OpenedImagesStay
opened_stay agree start m n log image fields r strings led chunks home listed kept apart opening closing =
    let has : HasImage n image fields = known_stay start m n log image fields led chunks (inl (r, home.live, listed)) kept in (
      has,
      λ tenant. agree fields tenant strings (bodies n has.home) (bodies m r) apart
          (bodies_among strings n has.home closing fields.names has.chunks)
          (bodies_among strings m r opening fields.names (home_whole m start.view led.mirrors chunks led.begun.may.sound image fields r home listed)),
    )

pub created_stay : MadeManifestsDenote → CreatedImagesStay
created_stay denote start m n log image salt tenant raw fields strings led chunks known made kept apart sealed closing =
    let has : HasImage n image fields = known_stay start m n log image fields led chunks known kept in
    record {
      fields = fields;
      has = has;
      denotes = denote salt tenant raw fields strings (bodies n has.home) made apart sealed (bodies_among strings n has.home closing fields.names has.chunks);
    }

-- ---- from store to store

pub images_kept : DenotationsAgree → ((m : Objects) (v w : View) → Mirrors m v → Mirrors m w → v ≡ w) → StoresKeepImages
images_kept agree one_view start m n log strings led chunks apart opening closing image tenant bytes back kept =
    let same : back.has.view ≡ start.view = one_view m back.has.view start.view back.has.mirrors led.mirrors in
    let home : IsHome start.view image back.has.home = subst (λ v. IsHome v image back.has.home) same back.has.is_home in
    let listed : map.get start.view (Manifest back.has.home image) ≡ Some (manifest back.fields) = subst (λ v. map.get v (Manifest back.has.home image) ≡ Some (manifest back.fields)) same back.has.listed in
    let stays = opened_stay agree start m n log image back.fields back.has.home strings led chunks home listed kept apart opening closing in
    record { fields = back.fields; has = stays.0; denotes = stays.1 tenant ∙ back.denotes }
