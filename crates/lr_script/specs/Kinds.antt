-- The kind of a line, by its first word, and which kinds may come in which part.
use Rattle.std.specs.Prelude.{ℕ, List, Bool, true, false, codes, if◌then◌else◌}
use Rattle.std.specs.Str.{bytes_eq}
use Rattle.lr_script.specs.declared.kind.Kind.{Kind}
use Rattle.lr_script.specs.declared.kind.Kind.TheVariants as kind
use Rattle.lr_script.specs.declared.kind.Part.{Part}
use Rattle.lr_script.specs.declared.kind.Part.TheVariants as part

abbrev pub kind_of : List ℕ → Kind
kind_of word =
    if bytes_eq word (codes "script") then kind.Script
    else if bytes_eq word (codes "nodes") then kind.Nodes
    else if bytes_eq word (codes "host") then kind.Host
    else if bytes_eq word (codes "root") then kind.Root
    else if bytes_eq word (codes "image") then kind.Image
    else if bytes_eq word (codes "device") then kind.Device
    else if bytes_eq word (codes "actor") then kind.Actor
    else if bytes_eq word (codes "read") then kind.Read
    else if bytes_eq word (codes "zero") then kind.Zero
    else if bytes_eq word (codes "write") then kind.Write
    else if bytes_eq word (codes "create") then kind.Create
    else if bytes_eq word (codes "migrate") then kind.Migrate
    else if bytes_eq word (codes "withdraw") then kind.Withdraw
    else if bytes_eq word (codes "rotate") then kind.Rotate
    else if bytes_eq word (codes "expire") then kind.Expire
    else if bytes_eq word (codes "delete") then kind.Delete
    else if bytes_eq word (codes "sweep") then kind.Sweep
    else if bytes_eq word (codes "settle") then kind.Settle
    else if bytes_eq word (codes "evict") then kind.Evict
    else if bytes_eq word (codes "drop") then kind.Drop
    else if bytes_eq word (codes "flip") then kind.Flip
    else if bytes_eq word (codes "forge") then kind.Forge
    else if bytes_eq word (codes "lose") then kind.Lose
    else if bytes_eq word (codes "after") then kind.After
    else if bytes_eq word (codes "close") then kind.Close
    else if bytes_eq word (codes "crash") then kind.Crash
    else if bytes_eq word (codes "schedule") then kind.Schedule
    else kind.Other

-- which kinds may come in a part: setup lines, then actors with their jobs, the after part, crash lines, a schedule line
abbrev pub may_come : Part → Kind → Bool
may_come part.Start kind.Script = true
may_come part.Setup kind.Nodes = true
may_come part.Setup kind.Host = true
may_come part.Setup kind.Root = true
may_come part.Setup kind.Image = true
may_come part.Setup kind.Device = true
may_come part.Setup kind.Actor = true
may_come part.Setup kind.After = true
may_come part.Setup kind.Crash = true
may_come part.Setup kind.Schedule = true
may_come part.Actors kind.Read = true
may_come part.Actors kind.Zero = true
may_come part.Actors kind.Write = true
may_come part.Actors kind.Create = true
may_come part.Actors kind.Migrate = true
may_come part.Actors kind.Withdraw = true
may_come part.Actors kind.Rotate = true
may_come part.Actors kind.Expire = true
may_come part.Actors kind.Delete = true
may_come part.Actors kind.Sweep = true
may_come part.Actors kind.Settle = true
may_come part.Actors kind.Evict = true
may_come part.Actors kind.Drop = true
may_come part.Actors kind.Flip = true
may_come part.Actors kind.Forge = true
may_come part.Actors kind.Lose = true
may_come part.Actors kind.Actor = true
may_come part.Actors kind.After = true
may_come part.Actors kind.Crash = true
may_come part.Actors kind.Schedule = true
may_come part.After kind.Migrate = true
may_come part.After kind.Withdraw = true
may_come part.After kind.Rotate = true
may_come part.After kind.Expire = true
may_come part.After kind.Delete = true
may_come part.After kind.Sweep = true
may_come part.After kind.Settle = true
may_come part.After kind.Close = true
may_come part.After kind.Crash = true
may_come part.After kind.Schedule = true
may_come part.Crashes kind.Crash = true
may_come part.Crashes kind.Schedule = true
may_come _ _ = false

-- the first line has come
abbrev pub has_begun : Part → Bool
has_begun part.Start = false
has_begun _ = true
