-- Document 01's answer of ten fields: the code's type of this name.
use Rattle.std.specs.Prelude.{Result}
use Rattle.refusals.specs.declared.Refusal.{Refusal}
use Rattle.ten_fields.specs.declared.TenFields.{TenFields}

-- what was found, or a refusal
abbrev pub TenAnswer : Type 0
TenAnswer = Result TenFields Refusal
