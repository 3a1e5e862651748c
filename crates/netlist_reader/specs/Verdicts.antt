-- What a text says: its verdict, and what its first bytes show already.
use Rattle.std.specs.Prelude.{ℕ, zero, suc, ◌==◌, List, [], ◌∷◌, Option, Some, None, Result, Ok, Err, length, take, nat_lt, if◌then◌else◌}
use Rattle.std.specs.Option.{option_or}
use Rattle.pulse_ids.specs.Quantities.{greatest_of}
use Rattle.pulse_ids.specs.declared.quantities.Quantity.TheVariants.{NetBytes}
use Rattle.cell_netlist.specs.Netlists.{PlainNetlist}
use Rattle.word_scan.specs.Lines.{whole_lines}
use Rattle.netlist_reader.specs.declared.refusals.NetRefusal.{NetRefusal}
use Rattle.netlist_reader.specs.declared.refusals.NetRefusal.TheVariants.{Truncated, Limit}
use Rattle.netlist_reader.specs.Places.{netlist_in, first_refusal, to_end, has_end}

-- the greatest number of bytes
abbrev pub limit : ℕ
limit = greatest_of NetBytes

-- the whole lines within the limit, up to and with `end`
abbrev pub lines_in : List ℕ → List (List ℕ)
lines_in text = to_end (whole_lines (take limit text))

-- there are too many bytes, and none of the lines is `end`
abbrev pub too_long : List ℕ → Option NetRefusal
too_long text = if has_end (lines_in text) then None else (if nat_lt limit (length text) then Some (Limit NetBytes) else None)

-- the refusal that the bytes so far show: the first one of a whole line, or else the limit
abbrev pub early : List ℕ → Option NetRefusal
early text = option_or (first_refusal [] (lines_in text)) (too_long text)

-- what stands after so many lines
abbrev pub after_lines : ℕ → List ℕ → List ℕ
after_lines zero text = text
after_lines (suc n) [] = []
after_lines (suc n) (byte ∷ bytes) = if byte == 10 then after_lines n bytes else after_lines (suc n) bytes

-- what stands after the `end` line
abbrev pub after_end : List ℕ → List ℕ
after_end text = if has_end (lines_in text) then after_lines (length (lines_in text)) text else []

-- the verdict of a text in which this is shown early
abbrev pub judged : Option NetRefusal → List ℕ → Result (PlainNetlist × List ℕ) NetRefusal
judged (Some refusal) text = Err refusal
judged None text = if has_end (lines_in text) then Ok (netlist_in (lines_in text), after_end text) else Err Truncated

-- the netlist and the bytes after its `end` line, or the refusal
abbrev pub net_verdict : List ℕ → Result (PlainNetlist × List ℕ) NetRefusal
net_verdict text = judged (early text) text
