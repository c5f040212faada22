-- 01's pieces come out so: every case of the table is computed from the definitions.
-- Assumes nothing.
use mathlib.Core.Path.{◌≡◌, refl}
use mathlib.Core.Bool.{true}
use Rattle.division.specs.Division.{count, pieces}
use Rattle.whole.specs.Position.{in_table}
use Rattle.moves.specs.Form.{room_of, stamped}
use Rattle.tape.specs.Lines.{seek, opens_tape, is_line_feed, line_at, gap_of, lines_up, lines}
use Rattle.numbers.specs.Numbers.{digits_of, unsigned_path, path_of, digits_in, number_of}
use Rattle.addresses.specs.Words.{capital, ends_number, form_of, number_word, indexed_word, word_at, next_word, lacks_point, words_up, words_from}
use Rattle.codes.specs.Codes.{g_code, m_code}
use Rattle.block.specs.Slots.{has, group_zero_is, code_in, any_of, g_in, m_in}
use Rattle.rules.specs.Rules.{calls_or_jumps, unknown_number, late_n, after_program, axis_twice, l_word_wrong, more_than_l, d_word_wrong, broken, call_wrong, path_wrong, centre_wrong, is_foreign, d_word_missing, bits_wrong, motion_wrong}
use Rattle.showing.specs.Showing.{broken_by, lacks_by, judged}
use Rattle.block.specs.Words.{slot_of, no_words, is_end, put_word, is_program_address, faulty_rest, gather, head_by, head_of, line_of}
use Rattle.acts.specs.Acting.{returns_by, motion_by, keep, shift_by, ends_by, cutting_by, revolution_by}
use Rattle.state.specs.Modal.{block_motion, correction_after, feed_after, due_after, settled}
use Rattle.requests.specs.Request.{times_of, steered, flow_by, request_of}
use Rattle.targets.specs.Target.{pair_of, correction_pair, offset_of, target_x, target_z}
use Rattle.stands.specs.Stands.{stands_freely, stands_with, stands_by, is_taken}
use Rattle.finding.specs.Finding.{here_of, found_by, seek_line, block_of_program}
use Rattle.places.specs.Places.{key_in, inserted}
use Rattle.reading.specs.Reading.{head_alarm, line_alarm, noted, ends_with}
use Rattle.reading.specs.Filling.{filed, room_alarm, alarm_with, read_lines_with, read_with}
use Rattle.axes.specs.Goes.{rapid_to, feed_to, dwell_at}
use Rattle.settings.specs.Limits.{outside_span, outside}
use Rattle.axes.specs.Limits.{any_outside}
use Rattle.turning.specs.Turning.{too_short, pass_count, pass_on, passes, turning, record_count}
use Rattle.grooving.specs.Grooving.{wrong, step_count, steps, cut_count, cutting, dwelling, plunge, plunges, grooving, plunge_count, record_count as record_count_grooving}
use Rattle.deeds.specs.Deed.{has_path, has_centre, straight_if, move_of, deed_of}
use Rattle.scaling.specs.Scaled.{is_facing, turning_of, groove_of}
use Rattle.asking.specs.Judge.{asks_of, alarm_of, doing}
use Rattle.interpreter.specs.of_verdicts.Verdicts.{sending_of, deed_in, asks_in, asked_in, alarm_in}
use Rattle.interpreter.specs.of_machine.Blocks.{done_records, done_state}
use Rattle.interpreter.specs.of_writing.Writes.{one_if, speed_of, tool_of, m_of, speed_and_tool, spindle_and_coolant, moved, done, stops, stopping, writes, other_count}
use Rattle.ahead.specs.Ahead.{called_at, jumped_to, looked_by, looked_up}
use Rattle.interpreter.specs.of_taking.Steps.{block_in, block_on, onward_by, alarm_by, alarm_at, run_after, done_at, records_at, origin_at, taken_by, taken_from}
use Rattle.interpreter.specs.of_answers.Answers.{answer_by}
use Rattle.interpreter.specs.Answers.{result_of, main_by, main_run, read_then, interpretation_by, interpretation}
use Rattle.interpreter.specs.of_runners.Runs.{records_of, listed_of, pre, go_back, and_then, go_on, onward, blocks, enough, repeated, called}
use Rattle.settings.specs.Wrong.{some_out, span_wrong, numbers_wrong, table_wrong, settings_wrong}
use Rattle.demands.specs.Table.{table, all_hold}

pub pieces_come_out : all_hold table ≡ true
unfolding count pieces in_table room_of seek opens_tape is_line_feed line_at gap_of lines_up lines digits_of unsigned_path path_of digits_in number_of capital ends_number form_of number_word
    indexed_word word_at next_word words_up words_from g_code m_code has any_of group_zero_is calls_or_jumps unknown_number late_n after_program axis_twice l_word_wrong stands_freely stands_with stands_by is_taken more_than_l
    call_wrong path_wrong centre_wrong is_foreign d_word_missing bits_wrong motion_wrong d_word_wrong broken broken_by lacks_by judged slot_of no_words is_end ends_by
    put_word is_program_address faulty_rest gather head_by head_of line_of lacks_point here_of found_by seek_line block_of_program head_alarm line_alarm noted ends_with key_in inserted filed room_alarm alarm_with read_lines_with read_with
    rapid_to feed_to dwell_at outside_span outside any_outside too_short pass_count pass_on passes turning record_count wrong step_count steps cut_count cutting dwelling plunge plunges
    grooving plunge_count record_count_grooving code_in g_in motion_by block_motion keep shift_by cutting_by revolution_by correction_after feed_after due_after settled times_of steered flow_by m_in
    request_of pair_of correction_pair offset_of target_x target_z has_path has_centre is_facing turning_of groove_of straight_if move_of deed_of asks_of
    alarm_of sending_of deed_in asks_in asked_in alarm_in done_records done_state one_if speed_of tool_of m_of speed_and_tool spindle_and_coolant doing moved done stops stopping
    writes other_count called_at jumped_to looked_by looked_up block_in block_on onward_by alarm_by alarm_at run_after done_at records_at origin_at taken_by taken_from answer_by result_of main_by
    main_run read_then interpretation_by interpretation records_of listed_of stamped pre go_back and_then go_on onward blocks enough repeated called some_out span_wrong numbers_wrong table_wrong settings_wrong returns_by
pieces_come_out = refl
