-- Each kind's line is decided: every field is bounded, and every condition is decided.
use Rattle.std.proofs.Common.{ℕ, ◌+◌, ◌*◌, ◌≤◌, ◌^◌, ◌==◌, List, [], ◌∷◌, ◌++◌, length, get_or, map, true, Some, codes, decimal, ap, ◌∙◌, refl, arith}
use Rattle.std.specs.List.{list_any}
use Rattle.lr_text.specs.Name.{is_name, place_of}
use Rattle.lr_text.specs.Words.{run_word, run_sum, key_word}
use Rattle.lr_origin.specs.declared.key.KeyKind.{KeyKind}
use Rattle.lr_origin.specs.Text.{key_text}
use Rattle.lr_script.specs.declared.kind.Part.TheVariants as part
use Rattle.lr_script.specs.declared.kind.Kind.{Kind}
use Rattle.lr_script.specs.declared.kind.Kind.TheVariants as kind
use Rattle.lr_script.specs.Limits.{hosts_most, devices_most, actors_most, cache_most, caches_most, nodes_least, nodes_most, node_most, all_nodes_most}
use Rattle.lr_script.specs.Limits.{image_most, images_most, call_most, calls_most, jobs_most, runs_most, roots_most, chunk_last, stripe_last, byte_last, crash_most}
use Rattle.lr_script.specs.Seen.{BodySeen, Host, Root, Image, Device, Read, Zero, Write, Create, Migrate, Withdraw, Rotate, Expire, Delete, Sweep, Settle, Evict, Drop, Flip, Forge, Lose, Close, ScheduleSeen}
use Rattle.lr_script.specs.State.{State, with_setup, with_job, actor_names}
use Rattle.lr_script.specs.Lines.{KindLine, ScriptLine, NodesLine, HostLine, RootLine, ImageLine, DeviceLine, ActorLine, ReadLine, ZeroLine, WriteLine, CreateLine, MigrateLine, WithdrawLine, RotateLine, ExpireLine, DeleteLine}
use Rattle.lr_script.specs.Lines.{SweepLine, SettleLine, EvictLine, DropLine, FlipLine, ForgeLine, LoseLine, AfterLine, CloseLine, CrashLine, ScheduleLine, IsImage, IsRange, IsRootWord, body_words}
use Rattle.lr_script.proofs.Sure.{Sure, never, mapped, both, denied, is_true, is_false, is_less, is_most, same_text, same_texts, no_place, same_place, some_word, some_number, some_place}
use Rattle.lr_script.proofs.SureFields.{some_key, key_sure, some_body, fits_sure, some_runs, runs_sure, some_kind, is_kind_sure, some_schedule, schedule_words_sure}

image_words_sure : (w : List (List ℕ)) (name tenant : List ℕ) (len : ℕ) (body : BodySeen) → Sure (IsImage w name tenant len body)
image_words_sure w name tenant len body =
    mapped (both (same_texts w (name ∷ key_word tenant ∷ decimal len ∷ body_words body)) (
    both (is_true (is_name name)) (
    both (key_sure tenant) (
    both (is_most len image_most) (
    fits_sure body len)))))
    (λ q. record { spelled = q.0; named = q.1.0; key = q.1.1.0; most = q.1.1.1.0; fits = q.1.1.1.1 })
    (λ e. (e.spelled, (e.named, (e.key, (e.most, e.fits)))))

range_sure : (s : State) (w : List (List ℕ)) (device offset len : ℕ) → Sure (IsRange s w device offset len)
range_sure s w device offset len =
    mapped (some_word w 0 (λ (name : List ℕ).
    both (same_texts w (name ∷ decimal offset ∷ decimal len ∷ [])) (
    both (same_place (place_of s.devices name) device) (
    both (is_less offset (2 ^ 64)) (
    both (is_most len call_most) (
    both (is_most (s.called + len) calls_most) (
    is_less s.jobs jobs_most))))))
    (λ name p. ap (λ (v : List (List ℕ)). get_or v 0 []) (p.0)))
    (λ q. let name : List ℕ = q.0 in record {
      name = name;
      spelled = q.1.0;
      declared = q.1.1.0;
      fits = q.1.1.1.0;
      most = q.1.1.1.1.0;
      all = q.1.1.1.1.1.0;
      room = q.1.1.1.1.1.1;
    })
    (λ e. (e.name, (e.spelled, (e.declared, (e.fits, (e.most, (e.all, e.room)))))))

root_word_sure : (w : List (List ℕ)) (root : ℕ) → Sure (IsRootWord w root)
root_word_sure w root =
    mapped (both (same_texts w (decimal root ∷ [])) (
    both (is_most 1 root) (
    is_most root roots_most)))
    (λ q. record { spelled = q.0; some = q.1.0; most = q.1.1 })
    (λ e. (e.spelled, (e.some, e.most)))

script_sure : (s : State) (w : List (List ℕ)) → Sure ((after : State) × ScriptLine s w after)
script_sure s w =
    mapped (same_texts w (codes "1" ∷ []))
    (λ q. (record s { part = part.Setup }, record { spelled = q; result = refl }))
    (λ e. e.1.spelled)

nodes_sure : (s : State) (w : List (List ℕ)) → Sure ((after : State) × NodesLine s w after)
nodes_sure s w =
    mapped (some_number (nodes_most + 1) (λ (nodes : ℕ).
    some_number (node_most + 1) (λ (cap : ℕ).
    both (same_texts w (decimal nodes ∷ decimal cap ∷ [])) (
    both (is_false s.sized) (
    both (same_texts s.devices []) (
    both (is_most nodes_least nodes) (
    both (is_most nodes nodes_most) (
    both (is_most 1 cap) (
    both (is_most cap node_most) (
    is_most (nodes * cap) all_nodes_most))))))))
    (λ cap p. let le : cap ≤ node_most = p.1.1.1.1.1.1.0 in omega arith))
    (λ nodes p. let le : nodes ≤ nodes_most = p.1.1.1.1.1.0 in omega arith))
    (λ q. let nodes : ℕ = q.0 in let cap : ℕ = q.1.0 in (
      record s { sized = true; script = record s.script { nodes = nodes; cap = cap } },
      record {
        nodes = nodes;
        cap = cap;
        spelled = q.1.1.0;
        once = q.1.1.1.0;
        early = q.1.1.1.1.0;
        some_nodes = q.1.1.1.1.1.0;
        most_nodes = q.1.1.1.1.1.1.0;
        some_cap = q.1.1.1.1.1.1.1.0;
        most_cap = q.1.1.1.1.1.1.1.1.0;
        all = q.1.1.1.1.1.1.1.1.1;
        result = refl;
      },
    ))
    (λ e. (
      e.1.nodes,
      (
        e.1.cap,
        (
          e.1.spelled,
          (
            e.1.once,
            (
              e.1.early,
              (
                e.1.some_nodes,
                (
                  e.1.most_nodes,
                  (
                    e.1.some_cap,
                    (
                      e.1.most_cap,
                      e.1.all,
                    ),
                  ),
                ),
              ),
            ),
          ),
        ),
      ),
    ))

host_sure : (s : State) (w : List (List ℕ)) → Sure ((after : State) × HostLine s w after)
host_sure s w =
    mapped (some_word w 0 (λ (name : List ℕ).
    some_number (cache_most + 1) (λ (cap : ℕ).
    both (same_texts w (name ∷ decimal cap ∷ [])) (
    both (is_true (is_name name)) (
    both (no_place (place_of s.hosts name)) (
    both (is_less (length s.hosts) hosts_most) (
    both (is_most 1 cap) (
    both (is_most cap cache_most) (
    is_most (s.chunks + cap) caches_most)))))))
    (λ cap p. let le : cap ≤ cache_most = p.1.1.1.1.1.0 in omega arith))
    (λ name p. ap (λ (v : List (List ℕ)). get_or v 0 []) (p.1.0)))
    (λ q. let name : List ℕ = q.0 in let cap : ℕ = q.1.0 in (
      with_setup (record s {
        hosts = s.hosts ++ name ∷ [];
        chunks = s.chunks + cap;
      }) (Host name cap),
      record {
        name = name;
        cap = cap;
        spelled = q.1.1.0;
        named = q.1.1.1.0;
        fresh = q.1.1.1.1.0;
        room = q.1.1.1.1.1.0;
        some = q.1.1.1.1.1.1.0;
        most = q.1.1.1.1.1.1.1.0;
        all = q.1.1.1.1.1.1.1.1;
        result = refl;
      },
    ))
    (λ e. (e.1.name, (e.1.cap, (e.1.spelled, (e.1.named, (e.1.fresh, (e.1.room, (e.1.some, (e.1.most, e.1.all)))))))))

root_sure : (s : State) (w : List (List ℕ)) → Sure ((after : State) × RootLine s w after)
root_sure s w =
    mapped (some_key (λ (salt : List ℕ).
    both (same_texts w (key_word salt ∷ [])) (
    key_sure salt))
    (λ salt p. p.1))
    (λ q. let salt : List ℕ = q.0 in (with_setup s (Root salt), record { salt = salt; spelled = q.1.0; key = q.1.1; result = refl }))
    (λ e. (e.1.salt, (e.1.spelled, e.1.key)))

image_sure : (s : State) (w : List (List ℕ)) → Sure ((after : State) × ImageLine s w after)
image_sure s w =
    mapped (some_word w 0 (λ (name : List ℕ).
    some_key (λ (tenant : List ℕ).
    some_number (image_most + 1) (λ (len : ℕ).
    some_body len (λ (body : BodySeen).
    both (image_words_sure w name tenant len body) (
    is_most (s.raw + len) images_most))
    (λ body p. p.0.fits))
    (λ len p. let le : len ≤ image_most = p.1.0.most in omega arith))
    (λ tenant p. p.1.1.0.key))
    (λ name p. ap (λ (v : List (List ℕ)). get_or v 0 []) (p.1.1.1.0.spelled)))
    (λ q. let name : List ℕ = q.0 in let tenant : List ℕ = q.1.0 in let len : ℕ = q.1.1.0 in let body : BodySeen = q.1.1.1.0 in (
      with_setup (record s { raw = s.raw + len }) (Image name tenant len body),
      record {
        name = name;
        tenant = tenant;
        len = len;
        body = body;
        image = q.1.1.1.1.0;
        all = q.1.1.1.1.1;
        result = refl;
      },
    ))
    (λ e. (e.1.name, (e.1.tenant, (e.1.len, (e.1.body, (e.1.image, e.1.all))))))

device_sure : (s : State) (w : List (List ℕ)) → Sure ((after : State) × DeviceLine s w after)
device_sure s w =
    mapped (some_word w 0 (λ (name : List ℕ).
    some_word w 1 (λ (host_name : List ℕ).
    some_word w 2 (λ (image : List ℕ).
    some_place (place_of s.hosts host_name) (λ (host : ℕ).
    some_key (λ (tenant : List ℕ).
    both (same_texts w (name ∷ host_name ∷ image ∷ key_word tenant ∷ [])) (
    both (is_true (is_name name)) (
    both (no_place (place_of s.devices name)) (
    both (is_less (length s.devices) devices_most) (
    both (same_place (place_of s.hosts host_name) host) (
    both (is_true (is_name image)) (
    key_sure tenant)))))))
    (λ tenant p. p.1.1.1.1.1.1))
    (λ host p. p.1.1.1.1.1.0))
    (λ image p. ap (λ (v : List (List ℕ)). get_or v 2 []) (p.1.1.0)))
    (λ host_name p. ap (λ (v : List (List ℕ)). get_or v 1 []) (p.1.1.1.0)))
    (λ name p. ap (λ (v : List (List ℕ)). get_or v 0 []) (p.1.1.1.1.0)))
    (λ q. let name : List ℕ = q.0 in let host_name : List ℕ = q.1.0 in let image : List ℕ = q.1.1.0 in let host : ℕ = q.1.1.1.0 in
    let tenant : List ℕ = q.1.1.1.1.0 in (
      with_setup (record s { devices = s.devices ++ name ∷ [] }) (Device name host image tenant),
      record {
        name = name;
        host_name = host_name;
        image = image;
        host = host;
        tenant = tenant;
        spelled = q.1.1.1.1.1.0;
        named = q.1.1.1.1.1.1.0;
        fresh = q.1.1.1.1.1.1.1.0;
        room = q.1.1.1.1.1.1.1.1.0;
        declared_host = q.1.1.1.1.1.1.1.1.1.0;
        image_named = q.1.1.1.1.1.1.1.1.1.1.0;
        key = q.1.1.1.1.1.1.1.1.1.1.1;
        result = refl;
      },
    ))
    (λ e. (
      e.1.name,
      (
        e.1.host_name,
        (
          e.1.image,
          (
            e.1.host,
            (
              e.1.tenant,
              (
                e.1.spelled,
                (
                  e.1.named,
                  (
                    e.1.fresh,
                    (
                      e.1.room,
                      (
                        e.1.declared_host,
                        (e.1.image_named, e.1.key),
                      ),
                    ),
                  ),
                ),
              ),
            ),
          ),
        ),
      ),
    ))

actor_sure : (s : State) (w : List (List ℕ)) → Sure ((after : State) × ActorLine s w after)
actor_sure s w =
    mapped (some_word w 0 (λ (name : List ℕ).
    both (same_texts w (name ∷ [])) (
    both (is_true (is_name name)) (
    both (denied (same_text name (codes "after"))) (
    both (denied (same_text name (codes "serial"))) (
    both (denied (same_text name (codes "rounds"))) (
    both (no_place (place_of (actor_names s) name)) (
    is_less (length s.script.actors) actors_most)))))))
    (λ name p. ap (λ (v : List (List ℕ)). get_or v 0 []) (p.0)))
    (λ q. let name : List ℕ = q.0 in (
      record s {
        part = part.Actors;
        script = record s.script {
          actors = s.script.actors ++ (
            name,
            [],
          ) ∷ [];
        };
      },
      record {
        name = name;
        spelled = q.1.0;
        named = q.1.1.0;
        not_after = q.1.1.1.0;
        not_serial = q.1.1.1.1.0;
        not_rounds = q.1.1.1.1.1.0;
        fresh = q.1.1.1.1.1.1.0;
        room = q.1.1.1.1.1.1.1;
        result = refl;
      },
    ))
    (λ e. (e.1.name, (e.1.spelled, (e.1.named, (e.1.not_after, (e.1.not_serial, (e.1.not_rounds, (e.1.fresh, e.1.room))))))))

read_sure : (s : State) (w : List (List ℕ)) → Sure ((after : State) × ReadLine s w after)
read_sure s w =
    mapped (some_place (place_of s.devices (get_or w 0 [])) (λ (device : ℕ).
    some_number (2 ^ 64) (λ (offset : ℕ).
    some_number (call_most + 1) (λ (len : ℕ).
    range_sure s w device offset len)
    (λ len p. let le : len ≤ call_most = p.most in omega arith))
    (λ offset p. p.1.fits))
    (λ device p. ap (λ (v : List (List ℕ)). place_of s.devices (get_or v 0 [])) (p.1.1.spelled) ∙ p.1.1.declared))
    (λ q. let device : ℕ = q.0 in let offset : ℕ = q.1.0 in let len : ℕ = q.1.1.0 in (
      with_job (record s { called = s.called + len }) (Read device offset len),
      record {
        device = device;
        offset = offset;
        len = len;
        range = q.1.1.1;
        result = refl;
      },
    ))
    (λ e. (e.1.device, (e.1.offset, (e.1.len, e.1.range))))

zero_sure : (s : State) (w : List (List ℕ)) → Sure ((after : State) × ZeroLine s w after)
zero_sure s w =
    mapped (some_place (place_of s.devices (get_or w 0 [])) (λ (device : ℕ).
    some_number (2 ^ 64) (λ (offset : ℕ).
    some_number (call_most + 1) (λ (len : ℕ).
    range_sure s w device offset len)
    (λ len p. let le : len ≤ call_most = p.most in omega arith))
    (λ offset p. p.1.fits))
    (λ device p. ap (λ (v : List (List ℕ)). place_of s.devices (get_or v 0 [])) (p.1.1.spelled) ∙ p.1.1.declared))
    (λ q. let device : ℕ = q.0 in let offset : ℕ = q.1.0 in let len : ℕ = q.1.1.0 in (
      with_job (record s { called = s.called + len }) (Zero device offset len),
      record {
        device = device;
        offset = offset;
        len = len;
        range = q.1.1.1;
        result = refl;
      },
    ))
    (λ e. (e.1.device, (e.1.offset, (e.1.len, e.1.range))))

write_sure : (s : State) (w : List (List ℕ)) → Sure ((after : State) × WriteLine s w after)
write_sure s w =
    mapped (some_word w 0 (λ (name : List ℕ).
    some_place (place_of s.devices name) (λ (device : ℕ).
    some_number (2 ^ 64) (λ (offset : ℕ).
    some_runs (λ (runs : List (ℕ × ℕ)).
    both (same_texts w (name ∷ decimal offset ∷ map run_word runs)) (
    both (same_place (place_of s.devices name) device) (
    both (is_less offset (2 ^ 64)) (
    both (is_most 1 (length runs)) (
    both (is_most (length runs) runs_most) (
    both (runs_sure runs call_most) (
    both (is_most (s.called + run_sum runs) calls_most) (
    is_less s.jobs jobs_most))))))))
    (λ runs p. p.1.1.1.1.0) (λ runs p. p.1.1.1.1.1.0.each))
    (λ offset p. p.1.1.1.0))
    (λ device p. p.1.1.1.0))
    (λ name p. ap (λ (v : List (List ℕ)). get_or v 0 []) (p.1.1.1.0)))
    (λ q. let name : List ℕ = q.0 in let device : ℕ = q.1.0 in let offset : ℕ = q.1.1.0 in let runs : List (ℕ × ℕ) = q.1.1.1.0 in (
      with_job (record s { called = s.called + run_sum runs }) (Write device offset runs),
      record {
        name = name;
        device = device;
        offset = offset;
        runs = runs;
        spelled = q.1.1.1.1.0;
        declared = q.1.1.1.1.1.0;
        fits = q.1.1.1.1.1.1.0;
        some = q.1.1.1.1.1.1.1.0;
        few = q.1.1.1.1.1.1.1.1.0;
        are = q.1.1.1.1.1.1.1.1.1.0;
        all = q.1.1.1.1.1.1.1.1.1.1.0;
        room = q.1.1.1.1.1.1.1.1.1.1.1;
        result = refl;
      },
    ))
    (λ e. (
      e.1.name,
      (
        e.1.device,
        (
          e.1.offset,
          (
            e.1.runs,
            (
              e.1.spelled,
              (
                e.1.declared,
                (
                  e.1.fits,
                  (
                    e.1.some,
                    (
                      e.1.few,
                      (
                        e.1.are,
                        (
                          e.1.all,
                          e.1.room,
                        ),
                      ),
                    ),
                  ),
                ),
              ),
            ),
          ),
        ),
      ),
    ))

create_sure : (s : State) (w : List (List ℕ)) → Sure ((after : State) × CreateLine s w after)
create_sure s w =
    mapped (some_word w 0 (λ (name : List ℕ).
    some_key (λ (tenant : List ℕ).
    some_number (image_most + 1) (λ (len : ℕ).
    some_body len (λ (body : BodySeen).
    both (image_words_sure w name tenant len body) (
    both (is_most (s.raw + len) images_most) (
    is_less s.jobs jobs_most)))
    (λ body p. p.0.fits))
    (λ len p. let le : len ≤ image_most = p.1.0.most in omega arith))
    (λ tenant p. p.1.1.0.key))
    (λ name p. ap (λ (v : List (List ℕ)). get_or v 0 []) (p.1.1.1.0.spelled)))
    (λ q. let name : List ℕ = q.0 in let tenant : List ℕ = q.1.0 in let len : ℕ = q.1.1.0 in let body : BodySeen = q.1.1.1.0 in (
      with_job (record s { raw = s.raw + len }) (Create name tenant len body),
      record {
        name = name;
        tenant = tenant;
        len = len;
        body = body;
        image = q.1.1.1.1.0;
        all = q.1.1.1.1.1.0;
        room = q.1.1.1.1.1.1;
        result = refl;
      },
    ))
    (λ e. (e.1.name, (e.1.tenant, (e.1.len, (e.1.body, (e.1.image, (e.1.all, e.1.room)))))))

migrate_sure : (s : State) (w : List (List ℕ)) → Sure ((after : State) × MigrateLine s w after)
migrate_sure s w =
    mapped (some_word w 0 (λ (image : List ℕ).
    both (same_texts w (image ∷ [])) (
    both (is_true (is_name image)) (
    is_less s.jobs jobs_most)))
    (λ image p. ap (λ (v : List (List ℕ)). get_or v 0 []) (p.0)))
    (λ q. let image : List ℕ = q.0 in (
      with_job s (Migrate image),
      record {
        image = image;
        spelled = q.1.0;
        named = q.1.1.0;
        room = q.1.1.1;
        result = refl;
      },
    ))
    (λ e. (e.1.image, (e.1.spelled, (e.1.named, e.1.room))))

withdraw_sure : (s : State) (w : List (List ℕ)) → Sure ((after : State) × WithdrawLine s w after)
withdraw_sure s w =
    mapped (some_word w 0 (λ (image : List ℕ).
    both (same_texts w (image ∷ [])) (
    both (is_true (is_name image)) (
    is_less s.jobs jobs_most)))
    (λ image p. ap (λ (v : List (List ℕ)). get_or v 0 []) (p.0)))
    (λ q. let image : List ℕ = q.0 in (
      with_job s (Withdraw image),
      record {
        image = image;
        spelled = q.1.0;
        named = q.1.1.0;
        room = q.1.1.1;
        result = refl;
      },
    ))
    (λ e. (e.1.image, (e.1.spelled, (e.1.named, e.1.room))))

rotate_sure : (s : State) (w : List (List ℕ)) → Sure ((after : State) × RotateLine s w after)
rotate_sure s w =
    mapped (some_key (λ (salt : List ℕ).
    both (same_texts w (key_word salt ∷ [])) (
    both (key_sure salt) (
    is_less s.jobs jobs_most)))
    (λ salt p. p.1.0))
    (λ q. let salt : List ℕ = q.0 in (
      with_job s (Rotate salt),
      record {
        salt = salt;
        spelled = q.1.0;
        key = q.1.1.0;
        room = q.1.1.1;
        result = refl;
      },
    ))
    (λ e. (e.1.salt, (e.1.spelled, (e.1.key, e.1.room))))

expire_sure : (s : State) (w : List (List ℕ)) → Sure ((after : State) × ExpireLine s w after)
expire_sure s w =
    mapped (some_number (roots_most + 1) (λ (root : ℕ).
    both (root_word_sure w root) (
    is_less s.jobs jobs_most))
    (λ root p. let le : root ≤ roots_most = p.0.most in omega arith))
    (λ q. let root : ℕ = q.0 in (with_job s (Expire root), record { root = root; is = q.1.0; room = q.1.1; result = refl }))
    (λ e. (e.1.root, (e.1.is, e.1.room)))

delete_sure : (s : State) (w : List (List ℕ)) → Sure ((after : State) × DeleteLine s w after)
delete_sure s w =
    mapped (some_number (roots_most + 1) (λ (root : ℕ).
    both (root_word_sure w root) (
    is_less s.jobs jobs_most))
    (λ root p. let le : root ≤ roots_most = p.0.most in omega arith))
    (λ q. let root : ℕ = q.0 in (with_job s (Delete root), record { root = root; is = q.1.0; room = q.1.1; result = refl }))
    (λ e. (e.1.root, (e.1.is, e.1.room)))

sweep_sure : (s : State) (w : List (List ℕ)) → Sure ((after : State) × SweepLine s w after)
sweep_sure s w =
    mapped (some_number (roots_most + 1) (λ (root : ℕ).
    both (root_word_sure w root) (
    is_less s.jobs jobs_most))
    (λ root p. let le : root ≤ roots_most = p.0.most in omega arith))
    (λ q. let root : ℕ = q.0 in (with_job s (Sweep root), record { root = root; is = q.1.0; room = q.1.1; result = refl }))
    (λ e. (e.1.root, (e.1.is, e.1.room)))

settle_sure : (s : State) (w : List (List ℕ)) → Sure ((after : State) × SettleLine s w after)
settle_sure s w =
    mapped (some_kind w (λ (key : KeyKind).
    both (same_texts w (key_text key ∷ [])) (
    both (is_kind_sure key) (
    is_less s.jobs jobs_most)))
    (λ key p. p.1.0) (λ key p. p.0))
    (λ q. let key : KeyKind = q.0 in (
      with_job s (Settle key),
      record {
        key = key;
        spelled = q.1.0;
        is = q.1.1.0;
        room = q.1.1.1;
        result = refl;
      },
    ))
    (λ e. (e.1.key, (e.1.spelled, (e.1.is, e.1.room))))

evict_sure : (s : State) (w : List (List ℕ)) → Sure ((after : State) × EvictLine s w after)
evict_sure s w =
    mapped (some_word w 0 (λ (name : List ℕ).
    some_place (place_of s.hosts name) (λ (host : ℕ).
    both (same_texts w (name ∷ [])) (
    both (same_place (place_of s.hosts name) host) (
    is_less s.jobs jobs_most)))
    (λ host p. p.1.0))
    (λ name p. ap (λ (v : List (List ℕ)). get_or v 0 []) (p.1.0)))
    (λ q. let name : List ℕ = q.0 in let host : ℕ = q.1.0 in (
      with_job s (Evict host),
      record {
        name = name;
        host = host;
        spelled = q.1.1.0;
        declared = q.1.1.1.0;
        room = q.1.1.1.1;
        result = refl;
      },
    ))
    (λ e. (e.1.name, (e.1.host, (e.1.spelled, (e.1.declared, e.1.room)))))

drop_sure : (s : State) (w : List (List ℕ)) → Sure ((after : State) × DropLine s w after)
drop_sure s w =
    mapped (some_word w 1 (λ (name : List ℕ).
    some_place (place_of s.devices name) (λ (device : ℕ).
    some_number (stripe_last + 1) (λ (stripe : ℕ).
    some_number (chunk_last + 1) (λ (index : ℕ).
    both (same_texts w (decimal stripe ∷ name ∷ decimal index ∷ [])) (
    both (same_place (place_of s.devices name) device) (
    both (is_most stripe stripe_last) (
    both (is_most index chunk_last) (
    is_less s.jobs jobs_most)))))
    (λ index p. let le : index ≤ chunk_last = p.1.1.1.0 in omega arith))
    (λ stripe p. let le : stripe ≤ stripe_last = p.1.1.1.0 in omega arith))
    (λ device p. p.1.1.1.0))
    (λ name p. ap (λ (v : List (List ℕ)). get_or v 1 []) (p.1.1.1.0)))
    (λ q. let name : List ℕ = q.0 in let device : ℕ = q.1.0 in let stripe : ℕ = q.1.1.0 in let index : ℕ = q.1.1.1.0 in (
      with_job s (Drop stripe device index),
      record {
        name = name;
        device = device;
        stripe = stripe;
        index = index;
        spelled = q.1.1.1.1.0;
        declared = q.1.1.1.1.1.0;
        most_stripe = q.1.1.1.1.1.1.0;
        most_index = q.1.1.1.1.1.1.1.0;
        room = q.1.1.1.1.1.1.1.1;
        result = refl;
      },
    ))
    (λ e. (e.1.name, (e.1.device, (e.1.stripe, (e.1.index, (e.1.spelled, (e.1.declared, (e.1.most_stripe, (e.1.most_index, e.1.room)))))))))

flip_sure : (s : State) (w : List (List ℕ)) → Sure ((after : State) × FlipLine s w after)
flip_sure s w =
    mapped (some_word w 1 (λ (name : List ℕ).
    some_place (place_of s.devices name) (λ (device : ℕ).
    some_number (stripe_last + 1) (λ (stripe : ℕ).
    some_number (chunk_last + 1) (λ (index : ℕ).
    some_number (byte_last + 1) (λ (at : ℕ).
    both (same_texts w (decimal stripe ∷ name ∷ decimal index ∷ decimal at ∷ [])) (
    both (same_place (place_of s.devices name) device) (
    both (is_most stripe stripe_last) (
    both (is_most index chunk_last) (
    both (is_most at byte_last) (
    is_less s.jobs jobs_most))))))
    (λ at p. let le : at ≤ byte_last = p.1.1.1.1.0 in omega arith))
    (λ index p. let le : index ≤ chunk_last = p.1.1.1.1.0 in omega arith))
    (λ stripe p. let le : stripe ≤ stripe_last = p.1.1.1.1.0 in omega arith))
    (λ device p. p.1.1.1.1.0))
    (λ name p. ap (λ (v : List (List ℕ)). get_or v 1 []) (p.1.1.1.1.0)))
    (λ q. let name : List ℕ = q.0 in let device : ℕ = q.1.0 in let stripe : ℕ = q.1.1.0 in let index : ℕ = q.1.1.1.0 in
    let at : ℕ = q.1.1.1.1.0 in (
      with_job s (Flip stripe device index at),
      record {
        name = name;
        device = device;
        stripe = stripe;
        index = index;
        at = at;
        spelled = q.1.1.1.1.1.0;
        declared = q.1.1.1.1.1.1.0;
        most_stripe = q.1.1.1.1.1.1.1.0;
        most_index = q.1.1.1.1.1.1.1.1.0;
        most_at = q.1.1.1.1.1.1.1.1.1.0;
        room = q.1.1.1.1.1.1.1.1.1.1;
        result = refl;
      },
    ))
    (λ e. (
      e.1.name,
      (
        e.1.device,
        (
          e.1.stripe,
          (
            e.1.index,
            (
              e.1.at,
              (
                e.1.spelled,
                (
                  e.1.declared,
                  (
                    e.1.most_stripe,
                    (
                      e.1.most_index,
                      (e.1.most_at, e.1.room),
                    ),
                  ),
                ),
              ),
            ),
          ),
        ),
      ),
    ))

forge_sure : (s : State) (w : List (List ℕ)) → Sure ((after : State) × ForgeLine s w after)
forge_sure s w =
    mapped (some_word w 0 (λ (name : List ℕ).
    some_place (place_of s.devices name) (λ (device : ℕ).
    some_number (chunk_last + 1) (λ (index : ℕ).
    both (same_texts w (name ∷ decimal index ∷ [])) (
    both (same_place (place_of s.devices name) device) (
    both (is_most index chunk_last) (
    is_less s.jobs jobs_most))))
    (λ index p. let le : index ≤ chunk_last = p.1.1.0 in omega arith))
    (λ device p. p.1.1.0))
    (λ name p. ap (λ (v : List (List ℕ)). get_or v 0 []) (p.1.1.0)))
    (λ q. let name : List ℕ = q.0 in let device : ℕ = q.1.0 in let index : ℕ = q.1.1.0 in (
      with_job s (Forge device index),
      record {
        name = name;
        device = device;
        index = index;
        spelled = q.1.1.1.0;
        declared = q.1.1.1.1.0;
        most = q.1.1.1.1.1.0;
        room = q.1.1.1.1.1.1;
        result = refl;
      },
    ))
    (λ e. (e.1.name, (e.1.device, (e.1.index, (e.1.spelled, (e.1.declared, (e.1.most, e.1.room)))))))

lose_sure : (s : State) (w : List (List ℕ)) → Sure ((after : State) × LoseLine s w after)
lose_sure s w =
    mapped (some_number (2 ^ 64) (λ (node : ℕ).
    both (same_texts w (decimal node ∷ [])) (
    both (is_less node (2 ^ 64)) (
    both (is_less node s.script.nodes) (
    is_less s.jobs jobs_most))))
    (λ node p. p.1.0))
    (λ q. let node : ℕ = q.0 in (
      with_job s (Lose node),
      record {
        node = node;
        spelled = q.1.0;
        fits = q.1.1.0;
        below = q.1.1.1.0;
        room = q.1.1.1.1;
        result = refl;
      },
    ))
    (λ e. (e.1.node, (e.1.spelled, (e.1.fits, (e.1.below, e.1.room)))))

after_sure : (s : State) (w : List (List ℕ)) → Sure ((after : State) × AfterLine s w after)
after_sure s w =
    mapped (same_texts w ([]))
    (λ q. (record s { part = part.After; script = record s.script { after = Some [] } }, record { spelled = q; result = refl }))
    (λ e. e.1.spelled)

close_sure : (s : State) (w : List (List ℕ)) → Sure ((after : State) × CloseLine s w after)
close_sure s w =
    mapped (some_word w 0 (λ (name : List ℕ).
    some_place (place_of s.devices name) (λ (device : ℕ).
    both (same_texts w (name ∷ [])) (
    both (same_place (place_of s.devices name) device) (
    both (is_false (list_any (λ d. d == device) s.closed)) (
    is_less s.jobs jobs_most))))
    (λ device p. p.1.0))
    (λ name p. ap (λ (v : List (List ℕ)). get_or v 0 []) (p.1.0)))
    (λ q. let name : List ℕ = q.0 in let device : ℕ = q.1.0 in (
      with_job (record s { closed = s.closed ++ device ∷ [] }) (Close device),
      record { name = name; device = device; spelled = q.1.1.0; declared = q.1.1.1.0; once = q.1.1.1.1.0; room = q.1.1.1.1.1; result = refl },
    ))
    (λ e. (e.1.name, (e.1.device, (e.1.spelled, (e.1.declared, (e.1.once, e.1.room))))))

crash_sure : (s : State) (w : List (List ℕ)) → Sure ((after : State) × CrashLine s w after)
crash_sure s w =
    mapped (some_word w 0 (λ (name : List ℕ).
    some_place (place_of (actor_names s) name) (λ (actor : ℕ).
    some_number (crash_most + 1) (λ (steps : ℕ).
    both (same_texts w (name ∷ decimal steps ∷ [])) (
    both (same_place (place_of (actor_names s) name) actor) (
    both (is_false (list_any (λ c. c.0 == actor + 1) s.script.crashes)) (
    is_most steps crash_most))))
    (λ steps p. let le : steps ≤ crash_most = p.1.1.1 in omega arith))
    (λ actor p. p.1.1.0))
    (λ name p. ap (λ (v : List (List ℕ)). get_or v 0 []) (p.1.1.0)))
    (λ q. let name : List ℕ = q.0 in let actor : ℕ = q.1.0 in let steps : ℕ = q.1.1.0 in (
      record s {
        part = part.Crashes;
        script = record s.script { crashes = s.script.crashes ++ (actor + 1, steps) ∷ [] };
      },
      record {
        name = name;
        actor = actor;
        steps = steps;
        spelled = q.1.1.1.0;
        declared = q.1.1.1.1.0;
        once = q.1.1.1.1.1.0;
        most = q.1.1.1.1.1.1;
        result = refl;
      },
    ))
    (λ e. (e.1.name, (e.1.actor, (e.1.steps, (e.1.spelled, (e.1.declared, (e.1.once, e.1.most)))))))

schedule_sure : (s : State) (w : List (List ℕ)) → Sure ((after : State) × ScheduleLine s w after)
schedule_sure s w =
    mapped (some_schedule (actor_names s) w (λ (schedule : ScheduleSeen).
    schedule_words_sure (actor_names s) w schedule)
    (λ schedule p. p))
    (λ q. let schedule : ScheduleSeen = q.0 in (
      record s { part = part.End; script = record s.script { schedule = schedule } },
      record { schedule = schedule; spelled = q.1; result = refl },
    ))
    (λ e. (e.1.schedule, e.1.spelled))

-- Whether a line of a kind may come is decided.
pub kind_sure : (k : Kind) (s : State) (w : List (List ℕ)) → Sure ((after : State) × KindLine k s w after)
kind_sure kind.Script s w = script_sure s w
kind_sure kind.Nodes s w = nodes_sure s w
kind_sure kind.Host s w = host_sure s w
kind_sure kind.Root s w = root_sure s w
kind_sure kind.Image s w = image_sure s w
kind_sure kind.Device s w = device_sure s w
kind_sure kind.Actor s w = actor_sure s w
kind_sure kind.Read s w = read_sure s w
kind_sure kind.Zero s w = zero_sure s w
kind_sure kind.Write s w = write_sure s w
kind_sure kind.Create s w = create_sure s w
kind_sure kind.Migrate s w = migrate_sure s w
kind_sure kind.Withdraw s w = withdraw_sure s w
kind_sure kind.Rotate s w = rotate_sure s w
kind_sure kind.Expire s w = expire_sure s w
kind_sure kind.Delete s w = delete_sure s w
kind_sure kind.Sweep s w = sweep_sure s w
kind_sure kind.Settle s w = settle_sure s w
kind_sure kind.Evict s w = evict_sure s w
kind_sure kind.Drop s w = drop_sure s w
kind_sure kind.Flip s w = flip_sure s w
kind_sure kind.Forge s w = forge_sure s w
kind_sure kind.Lose s w = lose_sure s w
kind_sure kind.After s w = after_sure s w
kind_sure kind.Close s w = close_sure s w
kind_sure kind.Crash s w = crash_sure s w
kind_sure kind.Schedule s w = schedule_sure s w
kind_sure kind.Other s w = never (λ e. e.1)
