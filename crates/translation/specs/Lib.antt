pub mod Translation
pub mod Computing
pub mod RecordsAreFew
pub mod MeetingIsHaving
pub mod QuietIsMeeting
