-- The limits of a script, each named once.
use Rattle.std.specs.Prelude.{ℕ}

-- bytes of a line without its LF
abbrev pub line_most : ℕ
line_most = 4096

-- lines, passed over ones too
abbrev pub lines_most : ℕ
lines_most = 100000

-- bytes of a script, each LF too
abbrev pub bytes_most : ℕ
bytes_most = 4194304

-- hosts, devices, actors
abbrev pub hosts_most : ℕ
hosts_most = 64

abbrev pub devices_most : ℕ
devices_most = 64

abbrev pub actors_most : ℕ
actors_most = 32

-- chunks of a host's cache, of all caches
abbrev pub cache_most : ℕ
cache_most = 1024

abbrev pub caches_most : ℕ
caches_most = 2048

-- nodes, at least and at most; stripes of a node; stripes of all nodes
abbrev pub nodes_least : ℕ
nodes_least = 5

abbrev pub nodes_most : ℕ
nodes_most = 32

abbrev pub node_most : ℕ
node_most = 4096

abbrev pub all_nodes_most : ℕ
all_nodes_most = 8192

-- without a `nodes` line: nodes, stripes of a node
abbrev pub nodes_default : ℕ
nodes_default = 5

abbrev pub node_default : ℕ
node_default = 1024

-- raw bytes of an image, of all images of a script
abbrev pub image_most : ℕ
image_most = 67108864

abbrev pub images_most : ℕ
images_most = 268435456

-- bytes of a device call, of all device calls of a script
abbrev pub call_most : ℕ
call_most = 1048576

abbrev pub calls_most : ℕ
calls_most = 268435456

-- jobs of a script
abbrev pub jobs_most : ℕ
jobs_most = 20000

-- runs on a line
abbrev pub runs_most : ℕ
runs_most = 64

-- the number that a body grows from
abbrev pub seed_most : ℕ
seed_most = 4294967295

-- roots are numbered from 1 to this
abbrev pub roots_most : ℕ
roots_most = 1000

-- the greatest index of a chunk, of a stripe, of a byte of a stripe
abbrev pub chunk_last : ℕ
chunk_last = 20479

abbrev pub stripe_last : ℕ
stripe_last = 4

abbrev pub byte_last : ℕ
byte_last = 131071

-- steps before a crash
abbrev pub crash_most : ℕ
crash_most = 1000000

-- pairs of a schedule, and the sum of their counts
abbrev pub pairs_most : ℕ
pairs_most = 64

abbrev pub counts_most : ℕ
counts_most = 1000000
