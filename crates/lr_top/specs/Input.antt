-- Why no script was read.
use Rattle.std.specs.Prelude.{ℕ}
use Rattle.lr_top.specs.declared.input.InputError.{InputError}
use Rattle.lr_top.specs.declared.input.InputError.TheVariants.{Outside, Failed, OutOfMemory}

-- what holds of the line that was outside
abbrev pub IfOutside : InputError → (ℕ → Type 0) → Type 0
IfOutside (Outside n) P = P n
IfOutside Failed P = Unit {0}
IfOutside OutOfMemory P = Unit {0}
