-- A play: the actors, and then the after part alone.
use Rattle.std.proofs.Common.{◌≡◌, ◌≤◌, ◌+◌, ℕ, List, [], ◌++◌, length, map, Some, slice_get, sym, ap, subst, ◌∙◌, arith}
use Rattle.std.specs.List.{AllZip}
use Rattle.lr_object.specs.declared.id.ObjectId.{ObjectId}
use Rattle.lr_walk.specs.Jobs.{Context}
use Rattle.lr_history.specs.Claims.{HaveOwnLeases}
use Rattle.lr_depot.specs.Depot as depots
use Rattle.lr_depot.specs.Depot.{IsStart}
use Rattle.lr_script.specs.Seen.{Serial, ScriptSeen}
use Rattle.lr_script.specs.Within.{IsWithin}
use Rattle.lr_actors.specs.declared.place.Parts.{Parts}
use Rattle.lr_actors.specs.declared.place.Context.{Context as Kept}
use Rattle.lr_actors.specs.declared.trail.Trail.{Trail}
use Rattle.lr_actors.specs.Jobs.{seen_context, calls, closes}
use Rattle.lr_replies.specs.Objects.{Objects, own_lists}
use Rattle.lr_replies.specs.Replies.{AreMade, IsOut}
use Rattle.lr_world.specs.Calling.{objects_in}
use Rattle.lr_world.specs.World.{Seen, objects_of, Part, cast_of, IsNumber, HasJob, HasCalls, HasNoClaims, HasNoSession, MayBegin, IsWorld}
use Rattle.lr_world.specs.Runs.{Grew, MaySchedule}
use Rattle.lr_prepare.specs.Prepared.{IsPrepared}
use Rattle.lr_play.specs.Players.{Player, actors_of, after_of, players_of}
use Rattle.lr_play.specs.Acting.{AreGiven, AreNew, HaveActed}
use Rattle.lr_play.specs.Played.{IsTrail, IsPlayed, part_of}
use Rattle.lr_play.proofs.Lists.{zip_append, map_at, map_both}
use Rattle.lr_play.proofs.Fresh.{IsFresh}
use Rattle.lr_play.proofs.Beginning.{cast_is, may_begin, may_schedule, actors_are, actors_close_none, actor_number, after_are, after_calls_none, after_number}
use Rattle.lr_play.proofs.Told.{all_trails, all_fit, all_let_go}
use Rattle.lr_play.proofs.Growing.{grew_both}
use Rattle.lr_play.proofs.Closed.{closed}

one_place : {X : Type 0} (xs : List X) (i j : ℕ) (x y : X) → i ≡ j → slice_get xs i ≡ Some x → slice_get xs j ≡ Some y → x ≡ y
one_place xs i j x y same e f = let here : slice_get xs j ≡ Some x = ap (slice_get xs) (sym same) ∙ e in cc (here, f)

module _ {O : Type 0} (script : ScriptSeen) (within : IsWithin script) (context : Context) (hosts : ℕ) (old : Seen O) (fresh : IsFresh script context hosts (objects_of old)) (actors : AreNew context hosts (actors_of script) old.actors) where
  pub first_begins : MayBegin context hosts old
  first_begins = may_begin context hosts (actors_of script) old actors (actors_are script within) fresh.leases fresh.made
      (λ i p e o. fresh.own p.number ((actors_are script within).some i p e) o) fresh.out (λ has. fresh.unclaimed)

  pub first_scheduled : MaySchedule script.schedule old
  first_scheduled = may_schedule script context hosts old within (cast_is context hosts (actors_of script) old.actors actors) fresh.unclaimed script.schedule within.schedule

  -- ---- the after part

  module _ {parts : Parts O} {told : List Trail} (acted : HaveActed script.schedule old parts told) where
    abbrev w : Objects
    w = objects_of acted.new

    world : IsWorld context hosts acted.new
    world = acted.is context hosts first_begins

    first_cast : cast_of old ≡ map (part_of context hosts) (actors_of script)
    first_cast = cast_is context hosts (actors_of script) old.actors actors

    -- the number of the after part is no actor's
    another : (n : ℕ) → n ≡ length script.actors + 1 → IsNumber (cast_of old) n → ⊥
    another n is has =
        let x : IsNumber (map (part_of context hosts) (actors_of script)) n = subst (λ (xs : List Part). IsNumber xs n) first_cast has in
        let a = map_at (part_of context hosts) (actors_of script) x.0 x.1 x.2 in
        let most : a.0.number ≤ length script.actors = actor_number script within x.0 a.0 a.1 in
        let same : a.0.number ≡ x.1.number = ap (λ (q : Part). q.number) a.2 in
        let number : x.1.number ≡ n = x.3 in
        absurd (omega (arith, is, most, same, number))

    closes_none : (i k device : ℕ) → HasJob (cast_of old) i k (closes device) → ⊥
    closes_none i k device has =
        let x : HasJob (map (part_of context hosts) (actors_of script)) i k (closes device) = subst (λ (xs : List Part). HasJob xs i k (closes device)) first_cast has in
        let a = map_at (part_of context hosts) (actors_of script) i x.0 x.1 in
        actors_close_none script within i k device a.0 a.1 (ap (λ (q : Part). slice_get q.jobs k) a.2 ∙ x.2)

    module _ (later : Seen O) (same : objects_of later ≡ w) (after : AreNew context hosts (after_of script) later.actors) where
      calls_none : HasCalls (cast_of later) → ⊥
      calls_none (i, k, device, asked, has) =
          let x : HasJob (map (part_of context hosts) (after_of script)) i k (calls device asked) = subst (λ (xs : List Part). HasJob xs i k (calls device asked)) (cast_is context hosts (after_of script) later.actors after) has in
          let a = map_at (part_of context hosts) (after_of script) i x.0 x.1 in
          after_calls_none script within i k device asked a.0 a.1 (ap (λ (q : Part). slice_get q.jobs k) a.2 ∙ x.2)

      pub second_begins : MayBegin context hosts later
      second_begins = may_begin context hosts (after_of script) later after (after_are script within) fresh.leases (subst (λ (v : Objects). AreMade v context hosts) (sym same) world.made)
          (λ i p e o. subst (λ (v : Objects). own_lists v p.number o ≡ []) (sym same) (own i p e o))
          (λ device place e. subst (λ (v : Objects). IsOut v place) (sym same) (acted.left.leases closes_none place (fresh.out device place e)))
          (λ has. absurd (calls_none has))
        where
          own : (i : ℕ) (p : Player) → slice_get (after_of script) i ≡ Some p → (o : ObjectId) → own_lists w p.number o ≡ []
          own i p e o = acted.left.others p.number (another p.number (after_number script within i p e)) o ∙ fresh.own p.number ((after_are script within).some i p e) o

      pub second_scheduled : HasCalls (cast_of later) → HasNoClaims (objects_of later)
      second_scheduled has = absurd (calls_none has)

      -- ---- the end

      module _ {last : Parts O} {more : List Trail} (ended : HaveActed Serial later last more) where
        v : Objects
        v = objects_in last

        after_world : IsWorld context hosts ended.new
        after_world = ended.is context hosts second_begins

        later_cast : cast_of later ≡ map (part_of context hosts) (after_of script)
        later_cast = cast_is context hosts (after_of script) later.actors after

        pub final_made : AreMade (objects_in last) context hosts
        final_made = subst (λ (u : Objects). AreMade u context hosts) (sym ended.objects) after_world.made

        -- an actor's number is not the after part's
        not_after : (n : ℕ) → n ≤ length script.actors → IsNumber (cast_of later) n → ⊥
        not_after n most has =
            let x : IsNumber (map (part_of context hosts) (after_of script)) n = subst (λ (xs : List Part). IsNumber xs n) later_cast has in
            let a = map_at (part_of context hosts) (after_of script) x.0 x.1 x.2 in
            let is : a.0.number ≡ length script.actors + 1 = after_number script within x.0 a.0 a.1 in
            let one : a.0.number ≡ x.1.number = ap (λ (q : Part). q.number) a.2 in
            let number : x.1.number ≡ n = x.3 in
            absurd (omega (arith, is, most, one, number))

        actor_lists : (i : ℕ) (p : Player) → slice_get (actors_of script) i ≡ Some p → (o : ObjectId) → own_lists (objects_in last) p.number o ≡ own_lists w p.number o
        actor_lists i p e o =
            ap (λ (u : Objects). own_lists u p.number o) ended.objects ∙ (ended.left.others p.number (not_after p.number (actor_number script within i p e)) o ∙ ap (λ (u : Objects). own_lists u p.number o) same)

        actor_sessions : (i : ℕ) (p : Player) → slice_get (actors_of script) i ≡ Some p → HasNoSession w p.number → HasNoSession (objects_in last) p.number
        actor_sessions i p e none =
            subst (λ (u : Objects). HasNoSession u p.number) (sym ended.objects)
            (ended.left.sessions p.number (not_after p.number (actor_number script within i p e)) (subst (λ (u : Objects). HasNoSession u p.number) (sym same) none))

        after_sessions : (i : ℕ) (p : Player) → slice_get (after_of script) i ≡ Some p → HasNoSession (objects_of ended.new) p.number → HasNoSession (objects_in last) p.number
        after_sessions i p e none = subst (λ (u : Objects). HasNoSession u p.number) (sym ended.objects) none

        after_lists : (i : ℕ) (p : Player) → slice_get (after_of script) i ≡ Some p → (o : ObjectId) → own_lists (objects_in last) p.number o ≡ own_lists (objects_of ended.new) p.number o
        after_lists i p e o = ap (λ (u : Objects). own_lists u p.number o) ended.objects

        pub final_trails : AllZip (IsTrail context (objects_in last)) (players_of script) (told ++ more)
        final_trails = zip_append (IsTrail context (objects_in last)) (actors_of script) (after_of script) told more
            (all_trails script context hosts (actors_of script) script.schedule old parts told actors acted world (objects_in last) actor_lists)
            (all_trails script context hosts (after_of script) Serial later last more after ended after_world (objects_in last) after_lists)

        actors_grew : Grew (map (part_of context hosts) (actors_of script)) (objects_of old) w
        actors_grew = subst (λ (xs : List Part). Grew xs (objects_of old) w) first_cast acted.left.grew

        after_grew : Grew (map (part_of context hosts) (after_of script)) w (objects_in last)
        after_grew =
            subst (λ (xs : List Part). Grew xs w (objects_in last)) later_cast
            (subst (λ (u : Objects). Grew (cast_of later) u (objects_in last)) same (subst (Grew (cast_of later) (objects_of later)) (sym ended.objects) ended.left.grew))

        pub final_grew : Grew (map (part_of context hosts) (players_of script)) (objects_of old) (objects_in last)
        final_grew =
            subst (λ (xs : List Part). Grew xs (objects_of old) (objects_in last)) (sym (map_both (part_of context hosts) (actors_of script) (after_of script)))
            (grew_both (map (part_of context hosts) (actors_of script)) (map (part_of context hosts) (after_of script)) (objects_of old) w (objects_in last) actors_grew after_grew)

        pub played : (depot : depots.Seen O) (before : Parts O) (kept : Kept) (all : List Trail) (p : IsPrepared script depot before kept) → seen_context kept ≡ context → kept.hosts ≡ hosts → objects_in before ≡ objects_of old → all ≡ told ++ more
            → AreGiven context hosts (players_of script) → IsPlayed script p.lines kept before last all
        played depot before kept all p is_context are_hosts first are given =
            let trails : AllZip (IsTrail (seen_context kept) (objects_in last)) (players_of script) all =
            subst (λ (c : Context). AllZip (IsTrail c (objects_in last)) (players_of script) all) (sym is_context) (subst (AllZip (IsTrail context (objects_in last)) (players_of script)) (sym are) final_trails) in
            let grew : Grew (map (part_of (seen_context kept) kept.hosts) (players_of script)) (objects_in before) (objects_in last) =
            subst (λ (c : Context). Grew (map (part_of c kept.hosts) (players_of script)) (objects_in before) (objects_in last)) (sym is_context)
            (subst (λ (h : ℕ). Grew (map (part_of context h) (players_of script)) (objects_in before) (objects_in last)) (sym are_hosts)
            (subst (λ (u : Objects). Grew (map (part_of context hosts) (players_of script)) u (objects_in last)) (sym first) final_grew)) in
            let may : AreGiven (seen_context kept) kept.hosts (players_of script) =
            subst (λ (c : Context). AreGiven c kept.hosts (players_of script)) (sym is_context) (subst (λ (h : ℕ). AreGiven context h (players_of script)) (sym are_hosts) given) in
            let made : AreMade (objects_in last) (seen_context kept) kept.hosts =
            subst (λ (c : Context). AreMade (objects_in last) c kept.hosts) (sym is_context) (subst (AreMade (objects_in last) context) (sym are_hosts) final_made) in
            let own_leases : HaveOwnLeases (seen_context kept) =
            subst HaveOwnLeases (sym is_context) (λ i j x y e f same_lease. one_place context.devices i j x y (fresh.leases i j x y e f same_lease) e f) in
            record {
              grew = grew;
              mid = w;
              first = subst (λ (c : Context). Grew (map (part_of c kept.hosts) (actors_of script)) (objects_in before) w) (sym is_context)
                  (subst (λ (h : ℕ). Grew (map (part_of context h) (actors_of script)) (objects_in before) w) (sym are_hosts)
                  (subst (λ (u : Objects). Grew (map (part_of context hosts) (actors_of script)) u w) (sym first) actors_grew));
              second = subst (λ (c : Context). Grew (map (part_of c kept.hosts) (after_of script)) w (objects_in last)) (sym is_context)
                  (subst (λ (h : ℕ). Grew (map (part_of context h) (after_of script)) w (objects_in last)) (sym are_hosts) after_grew);
              trails = trails;
              front = told;
              last = more;
              parts = are;
              actors = all_fit script context hosts (actors_of script) script.schedule old parts told actors acted world within.schedule;
              after = all_fit script context hosts (after_of script) Serial later last more after ended after_world tt;
              free = all_let_go script context hosts (actors_of script) script.schedule old parts told actors acted world (objects_in last) actor_lists actor_sessions;
              after_free = all_let_go script context hosts (after_of script) Serial later last more after ended after_world (objects_in last) after_lists after_sessions;
              closing = closed script depot before last kept p all grew trails may made own_leases;
            }
