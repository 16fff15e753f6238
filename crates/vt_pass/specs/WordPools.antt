-- The samplers of a kit, and its streamer.
use Rattle.std.specs.Prelude.{◌≡◌, ℕ, None, Some, List, slice_get}
use Rattle.vt_word_table.specs.Values.{WordsValue}
use Rattle.vt_word_table.specs.Views.{StreamerView}
use Rattle.vt_word_table.specs.declared.table.WordTable.{WordTable}
use Rattle.vt_word_table.specs.declared.table.WordReader.{WordReader}
use Rattle.vt_pass_machine.specs.SchedulesTypes.dealt.Dealt.{Dealt}
use Rattle.vt_pass_machine.specs.SchedulesTypes.dealt.Nothing.{Nothing}
use Rattle.vt_pass_machine.specs.SchedulesTypes.dealt.DealtWay.{DealtWay}
use Rattle.vt_pass_machine.specs.SchedulesTypes.dealt.DealtHome.{DealtHome}
use Rattle.vt_pass_machine.specs.PassRowsTypes.sampler.PassSampler.{PassSampler}
use Rattle.vt_pass_machine.specs.PassPoolTypes.pool.PassPool.{PassPool}
use Rattle.vt_pass_machine.specs.PassPoolTypes.shared.PassStreamer.{PassStreamer}

abbrev pub WordSampler : Type 0
WordSampler = PassSampler WordTable Dealt WordsValue WordReader StreamerView Nothing DealtWay DealtHome

abbrev pub WordPool : Type 0
WordPool = PassPool WordTable Dealt WordsValue WordReader StreamerView Nothing DealtWay DealtHome

abbrev pub WordStreamer : Type 0
WordStreamer = PassStreamer WordTable WordsValue WordReader StreamerView

-- no sampler has a pass of the words
abbrev pub HaveNoPass : List WordSampler → Type 0
HaveNoPass samplers = (k : ℕ) (a : WordSampler) → slice_get samplers k ≡ Some a → a.reader.pass ≡ None
