pub mod ChannelCurrent
