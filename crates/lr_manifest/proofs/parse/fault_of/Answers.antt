use Rattle.std.proofs.Common.{◌≡◌, true, false, None, refl, sym, ◌∙◌}
use Rattle.lr_manifest.specs.Manifest.{is_short, lacks_magic, is_other_version, has_wrong_fields, has_other_length, first_fault, HasNoFault}
use Rattle.lr_manifest.proofs.Faults.{by_tests, sound_of}
use Rattle.lr_manifest.proofs.parse.fault_of.Goals as goal

pub returns-then-is_short : goal.returns-then-is_short
returns-then-is_short c =
    let b = c.args.bytes.now in
    record { first = sym (by_tests b true (lacks_magic b) (is_other_version b) (has_wrong_fields b) (has_other_length b) (sym c.is_short.ensures ∙ c.if-is_short.true) refl refl refl refl); sound = tt; long = tt; whole = tt }

pub returns-then-lacks_magic : goal.returns-then-lacks_magic
returns-then-lacks_magic c =
    let b = c.args.bytes.now in
    record { first = sym (by_tests b false true (is_other_version b) (has_wrong_fields b) (has_other_length b) (sym c.is_short.ensures ∙ c.if-is_short.false) (sym c.lacks_magic.ensures ∙ c.if-lacks_magic.true) refl refl refl); sound = tt; long = tt; whole = tt }

pub returns-then-is_other_version : goal.returns-then-is_other_version
returns-then-is_other_version c =
    let b = c.args.bytes.now in
    record {
      first = sym (by_tests b false false true (has_wrong_fields b) (has_other_length b) (sym c.is_short.ensures ∙ c.if-is_short.false) (sym c.lacks_magic.ensures ∙ c.if-lacks_magic.false)
          (sym c.is_other_version.ensures ∙ c.if-is_other_version.true) refl refl);
      sound = tt;
      long = tt;
      whole = tt;
    }

pub returns-then-has_wrong_fields : goal.returns-then-has_wrong_fields
returns-then-has_wrong_fields c =
    let b = c.args.bytes.now in
    record {
      first = sym (by_tests b false false false true (has_other_length b) (sym c.is_short.ensures ∙ c.if-is_short.false) (sym c.lacks_magic.ensures ∙ c.if-lacks_magic.false)
          (sym c.is_other_version.ensures ∙ c.if-is_other_version.false) (sym c.has_wrong_fields.ensures ∙ c.if-has_wrong_fields.true) refl);
      sound = tt;
      long = tt;
      whole = tt;
    }

pub returns-then-has_other_length : goal.returns-then-has_other_length
returns-then-has_other_length c =
    let b = c.args.bytes.now in
    record {
      first = sym (by_tests b false false false false true (sym c.is_short.ensures ∙ c.if-is_short.false) (sym c.lacks_magic.ensures ∙ c.if-lacks_magic.false)
          (sym c.is_other_version.ensures ∙ c.if-is_other_version.false) (sym c.has_wrong_fields.ensures ∙ c.if-has_wrong_fields.false) (sym c.has_other_length.ensures ∙ c.if-has_other_length.true));
      sound = tt;
      long = tt;
      whole = tt;
    }

pub returns : goal.returns
returns c =
    let b = c.args.bytes.now in
    let none : None ≡ first_fault b = sym (by_tests b false false false false false (sym c.is_short.ensures ∙ c.if-is_short.false) (sym c.lacks_magic.ensures ∙ c.if-lacks_magic.false)
    (sym c.is_other_version.ensures ∙ c.if-is_other_version.false) (sym c.has_wrong_fields.ensures ∙ c.if-has_wrong_fields.false) (sym c.has_other_length.ensures ∙ c.if-has_other_length.false)) in
    let sound : HasNoFault b = sound_of b (sym none) in
    record { first = none; sound = sound; long = sound.long; whole = sound.whole }
