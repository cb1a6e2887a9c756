pub mod UdpSizes
