-- what a play did
use Rattle.std.proofs.Common.{◌≡◌, ℕ, List, [], ◌++◌, Option, Some, sym, ap, subst, ◌∙◌}
use Rattle.lr_spec.specs.Told.{Told}
use Rattle.lr_origin.specs.Objects.{Objects}
use Rattle.lr_roots.specs.Roots.{IsHomed}
use Rattle.lr_rules.specs.Parts.{HasParts}
use Rattle.lr_depot.specs.Begun.{Start}
use Rattle.lr_depot.specs.Machine.{LogEntry}
use Rattle.lr_images.specs.Answered.{SoundStoresAreUnspoiled}
use Rattle.lr_depot.specs.Store.{IsRun, LeadsTo}
use Rattle.lr_depot.specs.Owed.{IsOwed}
use Rattle.lr_depot.specs.Depot.{Seen, IsStart, IsEnded, LedTo, KeepsStore, first_state, state}
use Rattle.lr_images.proofs.Made.{run_front}
use Rattle.lr_setup.specs.Setup.{devices_of}
use Rattle.lr_script.specs.Seen.{ScriptSeen}
use Rattle.lr_actors.specs.declared.place.Parts.{Parts}
use Rattle.lr_actors.specs.declared.place.Context.{Context}
use Rattle.lr_actors.specs.declared.trail.Trail.{Trail}
use Rattle.lr_prepare.specs.Prepared.{IsPrepared}
use Rattle.lr_headline.specs.Headline.{RunsServe, RunsFindNothingSpoiled, RunsFollow}
use Rattle.lr_play.specs.Played.{IsPlayed}
use Rattle.lr_report.specs.declared.run.Run.{Run}
use Rattle.lr_top.specs.Played.{AreOpened, PlayedFrom, HasPlayed, left_of, Headline}

-- a log can be cut anywhere: the objects between keep what is promised
abbrev LogsCanBeCut : Type 0
LogsCanBeCut = (start : Start) (m n : Objects) (front rest : List LogEntry) → LedTo start m (front ++ rest) n → (k : Objects) × LedTo start m front k × LeadsTo (state start front) k rest n × KeepsStore start front k

module _ {O : Type 0} (objects : O → Option Objects) (faults : O → ℕ) where
  pub played_from : (script : ScriptSeen) (first : Seen O) (parts : Parts O) (context : Context) (p : IsPrepared script first parts context) (left : Parts O) (trails : List Trail) (after : O) (run : Run) → run.script ≡ script
      → IsPlayed script p.lines context parts left trails → AreOpened (devices_of p.lines) run.opening.devices.items → run.trails.items ≡ trails → IsEnded objects faults left.depot after run.depot run.catalog
      → run.devices.items ≡ left.devices.items → run.caches.items ≡ left.caches.items → run.nodes.items ≡ left.nodes.items → run.joined.items ≡ [] → PlayedFrom objects faults first after run
  played_from script first parts context p left trails after run same played opened trails_are ended devices caches nodes joined =
      let both = subst (λ (s : ScriptSeen). (q : IsPrepared s first parts context) × IsPlayed s q.lines context parts left trails × AreOpened (devices_of q.lines) run.opening.devices.items) (sym same) (p, played, opened) in
      record {
        parts = parts;
        context = context;
        prepared = both.0;
        left = left;
        played = subst (λ (t : List Trail). IsPlayed run.script both.0.lines context parts left t) (sym trails_are) both.1;
        ended = ended;
        devices = devices;
        caches = caches;
        nodes = nodes;
        opening = both.2;
        joined = joined;
      }

  module _ (before after : O) (run : Run) (p : HasPlayed objects faults before after run) where
    -- the depot that ended was started as the first one
    start_same : p.from.left.depot.start ≡ p.first.start
    start_same = p.from.played.grew.start ∙ p.from.prepared.start

    leads : Told (objects before) (λ m. (n : Objects) × (objects after ≡ Some n) × LedTo p.from.left.depot.start m p.from.left.depot.log n)
    leads m t =
        let same : p.from.left.depot.start.objects ≡ Some m = ap (λ (s : Start). s.objects) start_same ∙ (p.started.told ∙ t) in
        let l = p.from.ended.leads m same in
        (l.0, ap objects p.from.ended.store ∙ l.1, record { begun = p.from.ended.start; mirrors = p.from.ended.start.mirrors m same; leads = l.2 })

    run_all : IsRun (first_state p.first.start) run.depot.log
    run_all = subst (λ (s : Start). IsRun (first_state s) run.depot.log) start_same (subst (IsRun (first_state p.from.left.depot.start)) (sym p.from.ended.log) p.from.ended.legal)

    led_all : Told (objects before) (λ m. (n : Objects) × (objects after ≡ Some n) × LedTo p.first.start m run.depot.log n)
    led_all m t =
        let l = leads m t in
        (l.0, l.1, subst (λ (s : Start). LedTo s m run.depot.log l.0) start_same (subst (λ (log : List LogEntry). LedTo p.from.left.depot.start m log l.0) (sym p.from.ended.log) l.2))

    pub has_headline : RunsServe → RunsFollow → RunsFindNothingSpoiled → SoundStoresAreUnspoiled → LogsCanBeCut
        → ((start : Start) (log : List LogEntry) → IsStart start → IsRun (first_state start) log → HasParts (state start log))
        → ((start : Start) (log : List LogEntry) → IsStart start → IsRun (first_state start) log → (image : List ℕ) → IsOwed (first_state start) log image → IsHomed (state start log).known.view image)
        → Headline objects faults before after run p
    has_headline serve follow nothing unspoiled cut parts homed = record {
      served = λ m t chunks. let l = leads m t in (l.0, l.1, λ distinct. serve (left_of objects faults before after run p) m l.0 p.from.played.closing l.2 chunks distinct);
      follows = follow (left_of objects faults before after run p) p.from.played.closing;
      complete = λ front rest e.
          let front_runs = run_front (first_state p.first.start) front rest (subst (IsRun (first_state p.first.start)) e run_all) in
          (parts p.first.start front p.started.start front_runs, λ image owed. homed p.first.start front p.started.start front_runs image owed);
      stored = λ m t front rest e.
          let l = led_all m t in
          let both = cut p.first.start m l.0 front rest (subst (λ (log : List LogEntry). LedTo p.first.start m log l.0) e l.2) in
          (both.0, l.0, both.1, both.2, l.1, both.3);
      unspoiled = λ m t chunks.
          let l = leads m t in
          let all = led_all m t in
          (unspoiled p.first.start m all.0 run.depot.log all.2 chunks, nothing (left_of objects faults before after run p) m l.0 p.from.played.closing l.2 chunks);
    }
