-- The report of a run: the devices with their histories, the actors with the results of their jobs, and the depot.
use Rattle.std.specs.Prelude.{ℕ, List, ◌++◌, Bool, true, false, ◌&&◌, ◌==◌, codes, decimal, zip, count_by}
use Rattle.std.specs.List.{flat_map, enumerate_from}
use Rattle.lr_text.specs.Bytes.{bytes_text}
use Rattle.lr_origin.specs.Text.{key_text}
use Rattle.lr_origin.specs.declared.key.KeyKind.{KeyKind}
use Rattle.lr_device.specs.declared.call.DeviceCall.{DeviceCall}
use Rattle.lr_device.specs.declared.call.DeviceCall.TheVariants as call
use Rattle.lr_device.specs.declared.call.DeviceReply.{DeviceReply}
use Rattle.lr_device.specs.declared.call.DeviceReply.TheVariants as reply
use Rattle.lr_device.specs.PlainDevice.{Answered, offset_of, size_of}
use Rattle.lr_device.specs.Machine.{history}
use Rattle.lr_device.specs.Held.{Seen}
use Rattle.lr_walk.specs.declared.trail.JobResult.{JobResult}
use Rattle.lr_actors.specs.declared.trail.ActorState.{ActorState}
use Rattle.lr_actors.specs.declared.trail.ActorState.TheVariants as actor
use Rattle.lr_actors.specs.declared.trail.Trail.{Trail}
use Rattle.lr_depot.specs.Machine.{LogEntry}
use Rattle.lr_depot.specs.Left.{Left}
use Rattle.lr_depot.specs.declared.call.DepotNoted.{DepotNoted}
use Rattle.lr_depot.specs.declared.call.DepotNoted.TheVariants as noted
use Rattle.lr_roots.specs.View.{View}
use Rattle.lr_rootlines.specs.RootLines.{roots_part}
use Rattle.lr_report.specs.Names.{device_names, caller_names, name_of}
use Rattle.lr_report.specs.Answers.{answer_text}
use Rattle.lr_report.specs.declared.run.OpenDevice.{OpenDevice}
use Rattle.lr_report.specs.declared.run.Run.{Run}

-- a call's word, between spaces
abbrev pub call_word : DeviceCall → List ℕ
call_word (call.Read offset len) = codes " read "
call_word (call.Write offset bytes) = codes " write "
call_word (call.Zero offset len) = codes " zero "

-- ` read OFFSET LENGTH `, or with `write` or `zero`
unfoldable pub call_text : DeviceCall → List ℕ
call_text c = call_word c ++ (decimal (offset_of c) ++ (codes " " ++ (decimal (size_of c) ++ codes " ")))

-- the bytes that were got, `done` or `range`
abbrev pub reply_text : DeviceReply → List ℕ
reply_text (reply.Got bytes) = bytes_text bytes
reply_text reply.Done = codes "done"
reply_text reply.Range = codes "range"

-- `ACTOR read OFFSET LENGTH RUNS`, `ACTOR write OFFSET LENGTH done`, `ACTOR zero OFFSET LENGTH done`, or with `range` at its end
unfoldable pub entry_text : List (List ℕ) → Answered → List ℕ
entry_text callers e = name_of callers e.caller ++ (call_text e.call ++ (reply_text e.reply ++ codes "\n"))

-- `device NAME IMAGE LENGTH`, the length being that of the padded bytes
unfoldable pub device_line : List ℕ → OpenDevice → List ℕ
device_line name opened =
    codes "device " ++ (name ++ (codes " " ++ (opened.image ++ (codes " " ++ (decimal opened.length ++ codes "\n")))))

-- a device's line, by its name and what was opened, and then each call that the device answered
unfoldable pub device_part : List (List ℕ) → List ℕ × (OpenDevice × Seen) → List ℕ
device_part callers d = device_line d.0 d.1.0 ++ flat_map (entry_text callers) (history d.1.1.log)

-- the devices in the order of their lines
unfoldable pub devices_part : List (List ℕ) → List (List ℕ × (OpenDevice × Seen)) → List ℕ
devices_part callers ds = flat_map (device_part callers) ds

-- what an actor came to
abbrev pub state_word : ActorState → List ℕ
state_word actor.Ended = codes " ended\n"
state_word actor.Crashed = codes " crashed\n"
state_word actor.Unfinished = codes " unfinished\n"

-- `I RESULT`, I being the job's number
unfoldable pub result_line : ℕ × JobResult → List ℕ
result_line r = decimal r.0 ++ (codes " " ++ (answer_text r.1.answer ++ codes "\n"))

-- the results of jobs, numbered from 1
unfoldable pub results_part : List JobResult → List ℕ
results_part results = flat_map result_line (enumerate_from 1 results)

-- `actor NAME ended`, or with `crashed` or `unfinished`, and then each job
unfoldable pub actor_part : List ℕ × Trail → List ℕ
actor_part a = codes "actor " ++ (a.0 ++ (state_word a.1.state ++ results_part a.1.results.items))

-- the actors in the order of their lines, then the after part
unfoldable pub actors_part : List (List ℕ × Trail) → List ℕ
actors_part trails = flat_map actor_part trails

-- a call for a chunk, whatever is answered
abbrev pub is_fetch : DepotNoted → Bool
is_fetch (noted.Fetch lease index) = true
is_fetch call = false

-- a call for a chunk by this caller
abbrev pub is_fetch_of : ℕ → LogEntry → Bool
is_fetch_of caller e = (e.caller == caller) && is_fetch e.call

-- how many calls for chunks a caller made
unfoldable pub fetches : List LogEntry → ℕ → ℕ
fetches log caller = count_by (is_fetch_of caller) log

-- `fetched NAME N`, by the number and the name of a caller
unfoldable pub fetched_line : List LogEntry → ℕ × List ℕ → List ℕ
fetched_line log caller = codes "fetched " ++ (caller.1 ++ (codes " " ++ (decimal (fetches log caller.0) ++ codes "\n")))

-- that line of each caller, numbered from 1
unfoldable pub fetched_part : List LogEntry → List (List ℕ) → List ℕ
fetched_part log callers = flat_map (fetched_line log) (enumerate_from 1 callers)

-- `doubt KEY`
unfoldable pub doubt_line : KeyKind → List ℕ
doubt_line key = codes "doubt " ++ (key_text key ++ codes "\n")

-- the puts in doubt, in byte order
unfoldable pub doubts_part : List KeyKind → List ℕ
doubts_part keys = flat_map doubt_line keys

-- `depot`, how many chunks each caller asked for, the roots, and the puts in doubt
unfoldable pub depot_part : List (List ℕ) → Left → View → List ℕ
depot_part callers left view = codes "depot\n" ++ (fetched_part left.log callers ++ (roots_part view ++ doubts_part left.doubts))

-- the devices, the actors and the depot; each device line stands with what it opened and with its device, and each name of a caller with its trail
unfoldable pub report_text : Run → List ℕ
report_text run =
    devices_part (caller_names run.script) (zip (device_names run.script) (zip run.opening.devices.items run.devices.items))
    ++ (actors_part (zip (caller_names run.script) run.trails.items) ++ depot_part (caller_names run.script) run.depot run.catalog.view)
